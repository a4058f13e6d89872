-- Buffers that hold a state of the machine, with more behind it: what a call's contract says of them is what the machine does with the state.
-- Assumes nothing.
use mathlib.Core.Path.{◌≡◌, refl, sym, ap, ◌∙◌, subst}
use mathlib.Core.Bool.{Bool, true, false, cond, not, ◌&&◌, true≢false, and-eq-true_iff}
use mathlib.Core.List.{List, [], ◌∷◌, ◌++◌, map}
use Prim.Native.Nat.{ℕ, suc, ◌+◌, ◌*◌, ◌/◌, ◌%◌, ◌≤◌, ◌<◌, min}
use native.Mathlib.Omega.{arith}
use lib.Dec.{ltb, eqb}
use lib.ListN.{length, get_or, set, take, replicate, length-append, length-set, get_or-append}
use lib.Seq.{set-append_left, take_at}
use borrow.Author.Tests.{le-ltb, ltb-true}
use Rattle.picture.specs.Fill.{get_or_any}
use Rattle.clarity.specs.declared.Clarity.{Clarity}
use Rattle.header.specs.declared.Rectangle.{Rectangle}
use Rattle.header.specs.declared.Header.{Header}
use Rattle.header.specs.Header.{locked, past, with_lock, no_header}
use Rattle.machine.specs.Lists.{stamp, set_all, count, first}
use Rattle.machine.specs.Screen.{Screen, Lawful, block_words, place}
use Rattle.machine.specs.Machine.{State, Paint, Refresh, Show, Lock, Answer, Painted, Refreshed, Shown, Locked, inside, names, put_words, put_block, put_all, block_at}
use Rattle.machine.specs.Machine.{store, redraw, header_of, relock, step}
use Rattle.machine.specs.Calls.{is_stale, stale_of, side_long, refusal_header, refusal_clarity, refusal_all, refusal_lent, refusal_paint}
use Rattle.machine.specs.Calls.{refusal_show, refusal_lock, PaintEnd, RefreshEnd, ShowEnd, LockEnd}
use Rattle.machine.specs.Calls.{paint_end, refresh_end, show_end, lock_end, Paints, Refreshes, Shows, Locks}
use Rattle.machine.specs.Demand3.{Buffers, byte_of, latest}
use Rattle.machine.proofs.Places.{block_lt, spot_lt}
use Rattle.machine.proofs.Lists.{Below, stamp_append, length_bytes, stale_bytes, get_or_bytes, stamp_bytes, set_all_append, set_all_bytes}
use Rattle.machine.proofs.Lists.{first_below, table_same}
use Rattle.machine.proofs.Good.{Good, good_store, good_redraw, length_put_block, spot_below}

-- ---- refusals, from the tests' values

-- no refusal: the first condition does not hold, and what follows it is none either
pub unmet : (a : Bool) (n x : ℕ) → cond a (suc n) x ≡ 0 → (a ≡ false) × (x ≡ 0)
unmet true n x e = absurd (omega arith)
unmet false n x e = (refl, e)

-- two conditions that do not hold, and then what follows them
beyond : (a b : Bool) (l m x : ℕ) → a ≡ false → b ≡ false → cond a l (cond b m x) ≡ x
beyond a b l m x e f = rw (e, f)

and_false : (a b : Bool) → a ≡ false → (a && b) ≡ false
and_false true b e = absurd (true≢false e)
and_false false b e = refl

-- ---- the buffers

abbrev pub bytes : State → List ℕ
bytes s = map byte_of s.stale

-- the buffers that hold s, with tp, to and tm behind it
abbrev pub held : List ℕ → List ℕ → List ℕ → State → Buffers
held tp to tm s = record { picture = s.picture ++ tp; output = s.output ++ to; marks = bytes s ++ tm }

pub inside_of : (w h column row : ℕ) → inside w h column row ≡ true → (column < w) × (row < h)
inside_of w h column row e =
    let i = (and-eq-true_iff (ltb column w) (ltb row h)).0 e in (ltb-true column w i.0, ltb-true row h i.1)

module _ (S : Screen) (w h : ℕ) (s : State) (g : Good S w h s) where
  pub bytes_length : length (bytes s) ≡ w * h
  bytes_length = length_bytes s.stale ∙ g.stale_length

  -- the marks say what is stale
  pub stale_held : (tm : List ℕ) → stale_of (w * h) (bytes s ++ tm) ≡ s.stale
  stale_held tm = ap (map is_stale) (take_at (bytes s) tm (w * h) bytes_length) ∙ stale_bytes s.stale

  picture_held : (tp : List ℕ) → take (w * h) (s.picture ++ tp) ≡ s.picture
  picture_held tp = take_at s.picture tp (w * h) g.picture_length

  picture_long : (tp : List ℕ) → ltb (length (s.picture ++ tp)) (w * h) ≡ false
  picture_long tp = le-ltb (length (s.picture ++ tp)) (w * h) (omega (arith, length-append s.picture tp, g.picture_length))

  output_long : (to : List ℕ) → ltb (length (s.output ++ to)) (block_words S * (w * h)) ≡ false
  output_long to = le-ltb (length (s.output ++ to)) (block_words S * (w * h)) (omega (arith, length-append s.output to, g.output_length))

  marks_long : (tm : List ℕ) → ltb (length (bytes s ++ tm)) (w * h) ≡ false
  marks_long tm = le-ltb (length (bytes s ++ tm)) (w * h) (omega (arith, length-append (bytes s) tm, bytes_length))

-- ---- drawing, with more behind the output

module _ (S : Screen) (L : Lawful S) (w h : ℕ) where
  put_words_append : (b k : ℕ) (xs out rest : List ℕ) → b < w * h → length out ≡ block_words S * (w * h) → k + length xs ≤ block_words S
      → put_words S w h (b % w) (b / w) k xs (out ++ rest) ≡ put_words S w h (b % w) (b / w) k xs out ++ rest
  put_words_append b k [] out rest l n f = refl
  put_words_append b k (x ∷ xs) out rest l n f =
      let i = place S w (b % w) (b / w) k in
      let low : i < block_words S * (w * h) = spot_below S L w h b k l (omega arith) in
      ap (put_words S w h (b % w) (b / w) (suc k) xs) (set-append_left out rest i x (omega arith))
      ∙ put_words_append b (suc k) xs (set out i x) rest l (length-set out i x ∙ n) (omega arith)

  put_all_append : (q : Clarity) (picture bs out rest : List ℕ) → Below (w * h) bs → length out ≡ block_words S * (w * h)
      → put_all S w h q picture bs (out ++ rest) ≡ put_all S w h q picture bs out ++ rest
  put_all_append q picture [] out rest l n = refl
  put_all_append q picture (b ∷ bs) out rest l n =
      ap (put_all S w h q picture bs)
      (put_words_append b 0 (S.draw q w h picture (b % w) (b / w)) out rest l.0 n (omega (arith, L.draw_length q w h picture (b % w) (b / w))))
      ∙ put_all_append q picture bs (put_block S w h q picture b out) rest l.1 (length_put_block S w h q picture b out ∙ n)

  pub block_append : (to : List ℕ) (s : State) → Good S w h s → (bx by : ℕ) → bx < w → by < h
      → block_at S w h bx by (s.output ++ to) ≡ block_at S w h bx by s.output
  block_append to s g bx by x y =
      table_same (block_words S) (λ k. get_or (s.output ++ to) (place S w bx by k) 0) (λ k. get_or s.output (place S w bx by k) 0)
      (λ k l. get_or-append s.output to 0 (place S w bx by k)
      (omega (arith, g.output_length, spot_lt S.scale w L.scaled h bx by k x y l)))

-- ---- a call on buffers that hold a state

module _ (S : Screen) (L : Lawful S) (w h : ℕ) (sides : side_long S.side w h ≡ false) (tp to tm : List ℕ) (s : State) (g : Good S w h s) where
  -- what the machine leaves and answers, with the same behind it
  abbrev turned : State × Answer → Buffers × Answer
  turned t = (held tp to tm t.0, t.1)

  abbrev header : Header
  header = header_of w h s

  -- the header is not refused
  beyond_header : (x : ℕ) → refusal_header S.side header x ≡ x
  beyond_header x = beyond (side_long S.side w h) (past w h s.lock) 1 10 x sides g.lock_inside

  -- nor is its setting
  beyond_clarity : (x : ℕ) → refusal_clarity header x ≡ x
  beyond_clarity x = ap (λ (t : Bool). cond (not t) 13 x) g.setting_lawful

  refusal_none : refusal_all S.side (block_words S) header (length (s.picture ++ tp)) (length (s.output ++ to)) (length (bytes s ++ tm)) ≡ 0
  refusal_none =
      let c : ℕ = refusal_clarity header 0 in
      let m : ℕ = cond (ltb (length (bytes s ++ tm)) (w * h)) 4 c in
      let o : ℕ = cond (ltb (length (s.output ++ to)) (block_words S * (w * h))) 3 m in
      beyond_header (cond (ltb (length (s.picture ++ tp)) (w * h)) 2 o)
      ∙ beyond (ltb (length (s.picture ++ tp)) (w * h)) (ltb (length (s.output ++ to)) (block_words S * (w * h))) 2 3 m (picture_long S w h s g tp)
      (output_long S w h s g to)
      ∙ ap (λ (t : Bool). cond {A = ℕ} t 4 c) (marks_long S w h s g tm)
      ∙ beyond_clarity 0

  -- nor are the lengths of picture and marks, and the setting
  pub beyond_lent : (x : ℕ) → refusal_lent S.side header (length (s.picture ++ tp)) (length (bytes s ++ tm)) x ≡ x
  beyond_lent x =
      let c : ℕ = refusal_clarity header x in
      let short : ℕ = cond (ltb (length (bytes s ++ tm)) (w * h)) 4 c in
      beyond_header (cond (ltb (length (s.picture ++ tp)) (w * h)) 2 short)
      ∙ beyond (ltb (length (s.picture ++ tp)) (w * h)) (ltb (length (bytes s ++ tm)) (w * h)) 2 4 c (picture_long S w h s g tp) (marks_long S w h s g tm)
      ∙ beyond_clarity x

  pub paint_held : (column row word : ℕ) (d : PaintEnd) → Paints S header (s.picture ++ tp) (bytes s ++ tm) column row word d
      → ◌≡◌ {A = Buffers × Answer}
      (record { picture = d.picture; output = s.output ++ to; marks = d.marks }, Painted d.refusal d.changed d.stale)
      (turned (step S w h (Paint column row word) s))
  unfolding paint_end
  paint_held column row word d q =
      ap turn q.is ∙ ap (λ (r : ℕ). turn (choice r (eqb word (get_or P at 0)))) sized ∙ by_inside (inside w h column row) refl
    where
      at : ℕ
      at = row * w + column

      P : List ℕ
      P = s.picture ++ tp

      M : List ℕ
      M = bytes s ++ tm

      t : State
      t = store S w h column row word s

      turn : PaintEnd → Buffers × Answer
      turn d = (record { picture = d.picture; output = s.output ++ to; marks = d.marks }, Painted d.refusal d.changed d.stale)

      unchanged : PaintEnd
      unchanged = record { picture = P; marks = M; refusal = 0; changed = 0; stale = count (stale_of (w * h) M) }

      stored : PaintEnd
      stored =
          let marked = stamp (names S w h column row) 1 M in
          record { picture = set P at word; marks = marked; refusal = 0; changed = 1; stale = count (stale_of (w * h) marked) }

      choice : ℕ → Bool → PaintEnd
      choice r u = cond (eqb r 0) (cond u unchanged stored) (record { picture = P; marks = M; refusal = r; changed = 0; stale = 0 })

      K : Bool
      K = locked s.lock column row

      -- the refusal inside the picture, where the word is equal, and where the position is locked
      own : Bool → Bool → ℕ
      own u k = cond u 0 (cond k 11 0)

      sized : refusal_paint S.side header P (length M) column row word ≡ cond (inside w h column row) (own (eqb word (get_or P at 0)) K) 5
      sized = beyond_lent (cond (inside w h column row) (own (eqb word (get_or P at 0)) K) 5)

      -- what the machine does inside the picture
      machine : Bool → Bool → State × Answer
      machine u k = cond u (s, Painted 0 0 (count s.stale)) (cond k (s, Painted 11 0 0) (t, Painted 0 1 (count t.stale)))

      by_word : column < w → row < h → (u k : Bool) → turn (choice (own u k) u) ≡ turned (machine u k)
      by_word c r true k = λ i. (held tp to tm s, Painted 0 0 (count (stale_held S w h s g tm i)))
      by_word c r false true = refl
      by_word c r false false =
          let low : at < length s.picture = omega (arith, block_lt c r, g.picture_length) in
          let p : set P at word ≡ t.picture ++ tp = set-append_left s.picture tp at word low in
          let m : stamp (names S w h column row) 1 M ≡ bytes t ++ tm =
          stamp_append (names S w h column row) 1 (bytes s) tm
          (λ k l. and_false (ltb k (w * h)) (S.touches column row (k % w) (k / w)) (le-ltb k (w * h) (omega (arith, bytes_length S w h s g))))
          ∙ ap (λ (l : List ℕ). l ++ tm) (stamp_bytes (names S w h column row) s.stale) in
          let n : stale_of (w * h) (stamp (names S w h column row) 1 M) ≡ t.stale =
          ap (stale_of (w * h)) m ∙ stale_held S w h t (good_store S L w h column row word s c r g) tm in
          λ i. (record { picture = p i; output = s.output ++ to; marks = m i }, Painted 0 1 (count (n i)))

      by_inside : (b : Bool) → inside w h column row ≡ b
          → turn (choice (cond b (own (eqb word (get_or P at 0)) K) 5) (eqb word (get_or P at 0)))
          ≡ turned (cond b (machine (eqb word (get_or s.picture at 0)) K) (s, Painted 5 0 0))
      by_inside false e = refl
      by_inside true e =
          let i = inside_of w h column row e in
          let u : eqb word (get_or P at 0) ≡ eqb word (get_or s.picture at 0) =
          ap (eqb word) (get_or-append s.picture tp 0 at (omega (arith, block_lt i.0 i.1, g.picture_length))) in
          ap (λ (b : Bool). turn (choice (own b K) b)) u ∙ by_word i.0 i.1 (eqb word (get_or s.picture at 0)) K

  pub refresh_held : (n : ℕ) (d : RefreshEnd) → Refreshes S header (s.picture ++ tp) (s.output ++ to) (bytes s ++ tm) n d
      → ◌≡◌ {A = Buffers × Answer}
      (record { picture = s.picture ++ tp; output = d.output; marks = d.marks }, Refreshed d.refusal d.drawn d.left)
      (turned (step S w h (Refresh n) s))
  unfolding refresh_end
  refresh_held n d q = ap turn q.is ∙ ap refused refusal_none ∙ ap by_stale (stale_held S w h s g tm) ∙ machine
    where
      P : List ℕ
      P = s.picture ++ tp

      O : List ℕ
      O = s.output ++ to

      M : List ℕ
      M = bytes s ++ tm

      turn : RefreshEnd → Buffers × Answer
      turn d = (record { picture = P; output = d.output; marks = d.marks }, Refreshed d.refusal d.drawn d.left)

      -- what the contract says, by the stale blocks that the marks name
      done : List Bool → RefreshEnd
      done l =
          let blocks = first (min n (count l)) l in
          record {
            output = put_all S w h s.clarity (take (w * h) P) blocks O;
            marks = set_all blocks 0 M;
            refusal = 0;
            drawn = min n (count l);
            left = count (stale_of (w * h) (set_all blocks 0 M));
          }

      refused : ℕ → Buffers × Answer
      refused r = turn (cond (eqb r 0) (done (stale_of (w * h) M)) (record { output = O; marks = M; refusal = r; drawn = 0; left = 0 }))

      by_stale : List Bool → Buffers × Answer
      by_stale l = turn (done l)

      k : ℕ
      k = min n (count s.stale)

      t : State
      t = redraw S w h k s

      bs : List ℕ
      bs = first k s.stale

      machine : by_stale s.stale ≡ turned (t, Refreshed 0 k (count t.stale))
      machine =
          let low : Below (w * h) bs = subst (λ (m : ℕ). Below m bs) g.stale_length (first_below k s.stale) in
          let o : put_all S w h s.clarity (take (w * h) P) bs O ≡ t.output ++ to =
          ap (λ (p : List ℕ). put_all S w h s.clarity p bs O) (picture_held S w h s g tp) ∙ put_all_append S L w h s.clarity s.picture bs s.output to low g.output_length in
          let m : set_all bs 0 M ≡ bytes t ++ tm =
          set_all_append bs 0 (bytes s) tm (subst (λ (m : ℕ). Below m bs) (sym (bytes_length S w h s g)) low)
          ∙ ap (λ (l : List ℕ). l ++ tm) (set_all_bytes bs s.stale) in
          let l : stale_of (w * h) (set_all bs 0 M) ≡ t.stale = ap (stale_of (w * h)) m ∙ stale_held S w h t (good_redraw S L w h k s g) tm in
          λ i. (record { picture = P; output = o i; marks = m i }, Refreshed 0 k (count (l i)))

  pub show_held : (bx by : ℕ) (d : ShowEnd) → Shows S header (s.output ++ to) (bytes s ++ tm) bx by d
      → Shown d.refusal d.words ≡ (step S w h (Show bx by) s).1
  unfolding show_end
  show_held bx by d q = ap turn q.is ∙ ap (λ (r : ℕ). turn (choice r)) sized ∙ by_inside (inside w h bx by) refl
    where
      at : ℕ
      at = by * w + bx

      O : List ℕ
      O = s.output ++ to

      M : List ℕ
      M = bytes s ++ tm

      no_words : List ℕ
      no_words = replicate (block_words S) 0

      turn : ShowEnd → Answer
      turn d = Shown d.refusal d.words

      choice : ℕ → ShowEnd
      choice r = cond (eqb r 0) (record { refusal = 0; words = block_at S w h bx by O }) (record { refusal = r; words = no_words })

      sized : refusal_show S.side (block_words S) header (length O) M bx by ≡ cond (inside w h bx by) (cond (is_stale (get_or M at 0)) 7 0) 5
      sized =
          let x : ℕ = cond (inside w h bx by) (cond (is_stale (get_or M at 0)) 7 0) 5 in
          let c : ℕ = refusal_clarity header x in
          beyond_header (cond (ltb (length O) (block_words S * (w * h))) 3 (cond (ltb (length M) (w * h)) 4 c))
          ∙ beyond (ltb (length O) (block_words S * (w * h))) (ltb (length M) (w * h)) 3 4 c (output_long S w h s g to) (marks_long S w h s g tm)
          ∙ beyond_clarity x

      by_mark : (b : Bool) → block_at S w h bx by O ≡ block_at S w h bx by s.output
          → turn (choice (cond b 7 0)) ≡ cond b (Shown 7 no_words) (Shown 0 (block_at S w h bx by s.output))
      by_mark true e = refl
      by_mark false e = ap (Shown 0) e

      by_inside : (b : Bool) → inside w h bx by ≡ b
          → turn (choice (cond b (cond (is_stale (get_or M at 0)) 7 0) 5))
          ≡ cond b (cond (get_or s.stale at true) (Shown 7 no_words) (Shown 0 (block_at S w h bx by s.output))) (Shown 5 no_words)
      by_inside false e = refl
      by_inside true e =
          let i = inside_of w h bx by e in
          let low : at < length (bytes s) = omega (arith, block_lt i.0 i.1, bytes_length S w h s g) in
          let m : is_stale (get_or M at 0) ≡ get_or s.stale at true =
          ap is_stale (get_or-append (bytes s) tm 0 at low ∙ get_or_any (bytes s) at 0 1 low) ∙ get_or_bytes s.stale at in
          ap (λ (b : Bool). turn (choice (cond b 7 0))) m ∙ by_mark (get_or s.stale at true) (block_append S L w h to s g bx by i.0 i.1)

  -- the header that later calls are lent is that of the state after the lock
  pub lock_held : (r : Rectangle) (d : LockEnd) → Locks S header r d
      → ◌≡◌ {A = Header × Answer} (latest header d, Locked d.refusal d.header) (header_of w h (step S w h (Lock r) s).0, (step S w h (Lock r) s).1)
  unfolding lock_end
  lock_held r d q = ap turn q.is ∙ ap (λ (f : ℕ). turn (choice f)) sized ∙ by_past (past w h r)
    where
      turn : LockEnd → Header × Answer
      turn d = (latest header d, Locked d.refusal d.header)

      choice : ℕ → LockEnd
      choice f = cond (eqb f 0) (record { refusal = 0; header = with_lock header r }) (record { refusal = f; header = no_header })

      sized : refusal_lock S.side header r ≡ cond (past w h r) 10 0
      sized =
          beyond_header (cond (past w h r) 10 (refusal_clarity header 0)) ∙ ap (λ (x : ℕ). cond {A = ℕ} (past w h r) 10 x) (beyond_clarity 0)

      machine : Bool → State × Answer
      machine p = cond p (s, Locked 10 no_header) (relock r s, Locked 0 (header_of w h (relock r s)))

      by_past : (p : Bool) → turn (choice (cond p 10 0)) ≡ (header_of w h (machine p).0, (machine p).1)
      by_past true = refl
      by_past false = refl
