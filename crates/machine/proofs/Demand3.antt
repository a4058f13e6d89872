-- Demand 3 holds of every lawful screen. Assumes nothing.
use mathlib.Core.Path.{◌≡◌, refl, sym, ap, ap₂, ◌∙◌, subst, subst₂}
use mathlib.Core.Bool.{Bool, true, false, cond, not, true≢false}
use mathlib.Core.List.{List, [], ◌∷◌, ◌++◌, map}
use Prim.Native.Nat.{ℕ, suc, ◌+◌, ◌-◌, ◌*◌, ◌≤◌, ◌<◌, min}
use native.Mathlib.Nat.{zero-add}
use native.Mathlib.Omega.{arith}
use lib.Dec.{ltb, eqb}
use lib.Arith.{digits_div, digits_mod}
use lib.ListN.{length, get_or, take, drop, replicate, take-append-drop}
use lib.Seq.{take_at, drop_at, length-take-le, ext_get_or}
use borrow.Author.Tests.{eqb-true, eq-eqb, ltb-false}
use Rattle.clarity.specs.declared.Clarity.{Clarity}
use Rattle.clarity.specs.Clarity.{lawful_of, plainly}
use Rattle.header.specs.declared.Rectangle.{Rectangle}
use Rattle.header.specs.declared.Header.{Header}
use Rattle.header.specs.Header.{locked, past, no_lock, fresh, no_header}
use Rattle.machine.specs.Lists.{count}
use Rattle.machine.specs.Screen.{Screen, Lawful, block_words, place}
use Rattle.machine.specs.Machine.{State, Call, Paint, PaintList, Refresh, Show, Lock, Answer, Locked, put_all, block_at}
use Rattle.machine.specs.Machine.{opened, redraw, header_of, relock, step, after, answers}
use Rattle.machine.specs.Calls.{side_long, refusal_all, OpenEnd, open_end, Paints, PaintLists, Refreshes, Shows, Locks}
use Rattle.machine.specs.Demand3.{Buffers, latest, Ran, none, paint, paint_list, refresh, show, lock, Trace, Further, byte_of, whole, started, left, Holds, Follows, Demand3}
use Rattle.machine.proofs.Places.{block_lt}
use Rattle.machine.proofs.Lists.{length_bytes, bytes_replicate, count_replicate, first_replicate, count_cleared, length_table, get_or_table, none_true}
use Rattle.machine.proofs.Good.{Good, good_opened, good_redraw, good_relock, good_same}
use Rattle.machine.proofs.Held.{held, unmet, stale_held, block_append, paint_held, refresh_held, show_held, lock_held}
use Rattle.machine.proofs.Items.{by_paint, good_paint, by_list, good_list, list_held}

-- ---- the machine alone

module _ (S : Screen) (L : Lawful S) (w h : ℕ) where
  -- what holds of a state, and of it with the rectangle locked, holds after a lock
  by_lock : (P : State → Type 0) (r : Rectangle) (s : State) → P s → (past w h r ≡ false → P (relock r s)) → P (step S w h (Lock r) s).0
  by_lock P r s same locked = by_past (past w h r) refl
    where
      by_past : (p : Bool) → past w h r ≡ p → P (cond {A = State × Answer} p (s, Locked 10 no_header) (relock r s, Locked 0 (header_of w h (relock r s)))).0
      by_past true e = same
      by_past false e = locked e

  pub good_step : (c : Call) (s : State) → Good S w h s → Good S w h (step S w h c s).0
  good_step (Paint column row word) s g = good_paint S L w h column row word s g
  good_step (PaintList items) s g = good_list S L w h items s g
  good_step (Refresh n) s g = good_redraw S L w h (min n (count s.stale)) s g
  good_step (Show bx by) s g = g
  good_step (Lock r) s g = by_lock (Good S w h) r s g (λ e. good_relock S L w h r s e g)

  pub good_after : (cs : List Call) (s : State) → Good S w h s → Good S w h (after S w h cs s)
  good_after [] s g = g
  good_after (c ∷ cs) s g = good_after cs (step S w h c s).0 (good_step c s g)

  further_count : (n : ℕ) {k : ℕ} {more : List Call} (s : State) → Further n k more → count (after S w h more s).stale ≡ count s.stale - k * n
  further_count n s none = omega arith
  further_count n {k = suc k} s (refresh f) =
      let m = min n (count s.stale) in
      further_count n (redraw S w h m s) f ∙ omega (arith, count_cleared m s.stale)
  further_count n s (show f) = further_count n s f
  further_count n {k = k} s (lock {r = r} f) =
      further_count n (step S w h (Lock r) s).0 f
      ∙ ap (λ (l : List Bool). count l - k * n) (by_lock (λ t. t.stale ≡ s.stale) r s refl (λ e. refl))

  -- a block that is not stale
  block_drawn : (s : State) → Good S w h s → (bx by : ℕ) → bx < w → by < h → get_or s.stale (by * w + bx) true ≡ false
      → block_at S w h bx by s.output ≡ S.draw s.clarity w h s.picture bx by
  block_drawn s g bx by x y e = ext_get_or 0 (block_at S w h bx by s.output) (S.draw s.clarity w h s.picture bx by) (long ∙ sym (L.draw_length s.clarity w h s.picture bx by)) at
    where
      long : length (block_at S w h bx by s.output) ≡ block_words S
      long = length_table (block_words S) (λ k. get_or s.output (place S w bx by k) 0)

      b : ℕ
      b = by * w + bx

      at : (k : ℕ) → k < length (block_at S w h bx by s.output) → get_or (block_at S w h bx by s.output) k 0 ≡ get_or (S.draw s.clarity w h s.picture bx by) k 0
      at k l =
          let m : k < block_words S = omega (arith, long) in
          get_or_table (block_words S) (λ k. get_or s.output (place S w bx by k) 0) k 0 m
          ∙ subst₂ (λ (c r : ℕ). get_or s.output (place S w c r k) 0 ≡ get_or (S.draw s.clarity w h s.picture c r) k 0) (digits_mod by x) (digits_div by x)
          (g.shown b k (block_lt x y) e m)

  -- no call alters the setting
  pub same_setting : (cs : List Call) (s : State) → (after S w h cs s).clarity ≡ s.clarity
  same_setting [] s = refl
  same_setting (c ∷ cs) s = same_setting cs (step S w h c s).0 ∙ by_call c
    where
      by_call : (c : Call) → (step S w h c s).0.clarity ≡ s.clarity
      by_call (Paint column row word) = by_paint S L w h (λ t. t.clarity ≡ s.clarity) column row word s refl (λ c r f. refl)
      by_call (PaintList items) = by_list S L w h (λ t. t.clarity ≡ s.clarity) (λ column row word t e c r f. e) items s refl
      by_call (Refresh n) = refl
      by_call (Show bx by) = refl
      by_call (Lock r) = by_lock (λ t. t.clarity ≡ s.clarity) r s refl (λ e. refl)

-- ---- the whole picture is that of a session which is opened on it, at a lawful setting, and drawn once

module _ (S : Screen) (L : Lawful S) (w h : ℕ) (q : Clarity) (v : lawful_of q ≡ true) where
  full : List ℕ → State
  full picture = redraw S w h (w * h) (opened S w h q picture)

  full_good : (picture : List ℕ) → length picture ≡ w * h → Good S w h (full picture)
  unfolding full
  full_good picture l = good_redraw S L w h (w * h) (opened S w h q picture) (good_opened S L w h q picture v l)

  full_count : (picture : List ℕ) → count (full picture).stale ≡ 0
  unfolding full
  full_count picture = count_cleared (w * h) (replicate (w * h) true) ∙ omega (arith, count_replicate (w * h))

  full_output : (picture : List ℕ) → (full picture).output ≡ whole S w h q picture
  unfolding full
  full_output picture =
      ap (λ (bs : List ℕ). put_all S w h q picture bs (replicate (block_words S * (w * h)) 0)) (first_replicate 0 (w * h) (λ b. b) (λ k. sym (zero-add k)))

  full_same : (picture : List ℕ) → ((full picture).picture ≡ picture) × ((full picture).clarity ≡ q)
  unfolding full
  full_same picture = (refl, refl)

  whole_drawn : (picture : List ℕ) → length picture ≡ w * h → (bx by : ℕ) → bx < w → by < h
      → block_at S w h bx by (whole S w h q picture) ≡ S.draw q w h picture bx by
  whole_drawn picture l bx by x y =
      ap (block_at S w h bx by) (sym (full_output picture))
      ∙ block_drawn S L w h (full picture) (full_good picture l) bx by x y
      (none_true (full picture).stale (full_count picture) (by * w + bx) (omega (arith, (full_good picture l).stale_length, block_lt x y)))
      ∙ ap₂ (λ (c : Clarity) (p : List ℕ). S.draw c w h p bx by) (full_same picture).1 (full_same picture).0

-- ---- a list of calls, from buffers that hold a state

module _ (S : Screen) (L : Lawful S) (w h : ℕ) (sides : side_long S.side w h ≡ false) (tp to tm : List ℕ) where
  ran_held : {header last : Header} {b e : Buffers} {cs : List Call} {rs : List Answer} → Ran S header b cs rs last e → (s : State) → Good S w h s
      → header ≡ header_of w h s → b ≡ held tp to tm s
      → (last ≡ header_of w h (after S w h cs s)) × (e ≡ held tp to tm (after S w h cs s)) × (rs ≡ answers S w h cs s)
  ran_held none s g a q = (a, q, refl)
  ran_held (paint {column = column} {row = row} {word = word} {d = d} p r) s g a q =
      let t = paint_held S L w h sides tp to tm s g column row word d
      (subst₂ (λ (k : Header) (b : Buffers). Paints S k b.picture b.marks column row word d) a q p) in
      let i = ran_held r (step S w h (Paint column row word) s).0 (good_step S L w h (Paint column row word) s g)
      (a ∙ by_paint S L w h (λ t. header_of w h s ≡ header_of w h t) column row word s refl (λ c r f. refl))
      (ap (λ (b : Buffers). record { picture = d.picture; output = b.output; marks = d.marks }) q ∙ ap (λ (t : Buffers × Answer). t.0) t) in
      (i.0, i.1, ap₂ {C = List Answer} ◌∷◌ (ap (λ (t : Buffers × Answer). t.1) t) i.2)
  ran_held (paint_list {items = items} {d = d} p r) s g a q =
      let t = list_held S L w h sides tp to tm s g items d
      (subst₂ (λ (k : Header) (b : Buffers). PaintLists S k b.picture b.marks items d) a q p) in
      let i = ran_held r (step S w h (PaintList items) s).0 (good_step S L w h (PaintList items) s g)
      (a ∙ by_list S L w h (λ t. header_of w h s ≡ header_of w h t) (λ column row word t e c r f. e) items s refl)
      (ap (λ (b : Buffers). record { picture = d.picture; output = b.output; marks = d.marks }) q ∙ ap (λ (t : Buffers × Answer). t.0) t) in
      (i.0, i.1, ap₂ {C = List Answer} ◌∷◌ (ap (λ (t : Buffers × Answer). t.1) t) i.2)
  ran_held (refresh {n = n} {d = d} p r) s g a q =
      let t = refresh_held S L w h sides tp to tm s g n d
      (subst₂ (λ (k : Header) (b : Buffers). Refreshes S k b.picture b.output b.marks n d) a q p) in
      let i = ran_held r (step S w h (Refresh n) s).0 (good_step S L w h (Refresh n) s g) a
      (ap (λ (b : Buffers). record { picture = b.picture; output = d.output; marks = d.marks }) q ∙ ap (λ (t : Buffers × Answer). t.0) t) in
      (i.0, i.1, ap₂ {C = List Answer} ◌∷◌ (ap (λ (t : Buffers × Answer). t.1) t) i.2)
  ran_held (show {bx = bx} {by = by} {d = d} p r) s g a q =
      let t = show_held S L w h sides tp to tm s g bx by d (subst₂ (λ (k : Header) (b : Buffers). Shows S k b.output b.marks bx by d) a q p) in
      let i = ran_held r s g a q in
      (i.0, i.1, ap₂ {C = List Answer} ◌∷◌ t i.2)
  ran_held (lock {r = f} {d = d} p r) s g a q =
      let t = lock_held S L w h sides tp to tm s g f d (subst (λ (k : Header). Locks S k f d) a p) in
      let i = ran_held r (step S w h (Lock f) s).0 (good_step S L w h (Lock f) s g)
      (ap (λ (k : Header). latest k d) a ∙ ap (λ (t : Header × Answer). t.0) t)
      (q ∙ by_lock S L w h (λ t. held tp to tm s ≡ held tp to tm t) f s refl (λ e. refl)) in
      (i.0, i.1, ap₂ {C = List Answer} ◌∷◌ (ap (λ (t : Header × Answer). t.1) t) i.2)

-- ---- from the opening on

no_not : (t : Bool) → not t ≡ false → t ≡ true
no_not true e = refl
no_not false e = absurd (true≢false e)

-- an opening that is not refused
accepted : (r : ℕ) (d x y : OpenEnd) → y.refusal ≡ r → d ≡ cond (eqb r 0) x y → d.refusal ≡ 0 → (r ≡ 0) × (d ≡ x)
accepted r d x y n q z = by_test (eqb r 0) refl q
  where
    by_test : (t : Bool) → eqb r 0 ≡ t → d ≡ cond t x y → (r ≡ 0) × (d ≡ x)
    by_test true e f = (eqb-true r 0 e, f)
    by_test false e f =
        absurd (true≢false (sym (eq-eqb r 0 (sym n ∙ ap (λ (d : OpenEnd). d.refusal) (sym f) ∙ z)) ∙ e))

module _ (S : Screen) (L : Lawful S) (w h : ℕ) (q : Clarity) (b : Buffers) where
  -- the buffers that hold a state, with what b has behind
  abbrev keep : State → Buffers
  keep s = held (drop (w * h) b.picture) (drop (block_words S * (w * h)) b.output) (drop (w * h) b.marks) s

  module _ {stale : ℕ} {cs : List Call} {rs : List Answer} {last : Header} {e : Buffers} (t : Trace S w h q b stale cs rs last e) where
    done : OpenEnd
    done = record {
      output = replicate (block_words S * (w * h)) 0 ++ drop (block_words S * (w * h)) b.output;
      marks = replicate (w * h) 1 ++ drop (w * h) b.marks;
      refusal = 0;
      header = fresh w h q;
      stale = w * h;
    }

    refused : ℕ
    refused = refusal_all S.side (block_words S) (fresh w h q) (length b.picture) (length b.output) (length b.marks)

    opening : (refused ≡ 0)
        × (◌≡◌ {A = OpenEnd} (record { output = t.output; marks = t.marks; refusal = 0; header = t.header; stale = stale }) done)
    unfolding done refused open_end
    opening =
        accepted refused (record { output = t.output; marks = t.marks; refusal = 0; header = t.header; stale = stale }) done
        (record { output = b.output; marks = b.marks; refusal = refused; header = no_header; stale = 0 }) refl t.opens.is refl

    pub sizes : (side_long S.side w h ≡ false) × (w * h ≤ length b.picture) × (lawful_of q ≡ true)
    unfolding refused
    sizes =
        let f = unmet (side_long S.side w h) 0 _ opening.0 in
        let n = unmet (ltb (length b.picture) (w * h)) 1 _ (unmet (past w h no_lock) 9 _ f.1).1 in
        let o = unmet (ltb (length b.output) (block_words S * (w * h))) 2 _ n.1 in
        let m = unmet (ltb (length b.marks) (w * h)) 3 _ o.1 in
        (f.0, ltb-false (length b.picture) (w * h) n.0, no_not (lawful_of q) (unmet (not (lawful_of q)) 12 0 m.1).0)

    start : ◌≡◌ {A = Buffers} (record { picture = b.picture; output = t.output; marks = t.marks }) (keep (started S w h q b))
    unfolding done
    start = λ i. record {
      picture = sym (take-append-drop (w * h) b.picture) i;
      output = (opening.1 i).output;
      marks = (ap (λ (d : OpenEnd). d.marks) opening.1 ∙ ap (λ (l : List ℕ). l ++ drop (w * h) b.marks) (sym (bytes_replicate (w * h)))) i;
    }

    good_started : Good S w h (started S w h q b)
    good_started = good_opened S L w h q (take (w * h) b.picture) sizes.2 (length-take-le (w * h) b.picture sizes.1)

    abbrev pub met : State
    met = after S w h cs (started S w h q b)

    pub good_met : Good S w h met
    good_met = good_after S L w h cs (started S w h q b) good_started

    pub setting_met : met.clarity ≡ q
    setting_met = same_setting S L w h cs (started S w h q b)

    pub more : {cs : List Call} {rs : List Answer} {header last' : Header} {b' e' : Buffers} → Ran S header b' cs rs last' e' → (s : State) → Good S w h s
        → header ≡ header_of w h s → b' ≡ keep s
        → (last' ≡ header_of w h (after S w h cs s)) × (e' ≡ keep (after S w h cs s)) × (rs ≡ answers S w h cs s)
    more r s g a q = ran_held S L w h sizes.0 (drop (w * h) b.picture) (drop (block_words S * (w * h)) b.output) (drop (w * h) b.marks) r s g a q

    pub ended : (last ≡ header_of w h met) × (e ≡ keep met) × (rs ≡ answers S w h cs (started S w h q b))
    unfolding done
    ended = more t.ran (started S w h q b) good_started (ap (λ (d : OpenEnd). d.header) opening.1) start

    bytes_met : length (map byte_of met.stale) ≡ w * h
    bytes_met = length_bytes met.stale ∙ good_met.stale_length

    holds : Holds S w h met b last e
    holds = subst (Holds S w h met b last) (sym ended.1) (record {
      header_same = ended.0;
      picture_same = take_at met.picture (drop (w * h) b.picture) (w * h) good_met.picture_length;
      output_same = take_at met.output (drop (block_words S * (w * h)) b.output) (block_words S * (w * h)) good_met.output_length;
      marks_same = take_at (map byte_of met.stale) (drop (w * h) b.marks) (w * h) bytes_met;
      picture_rest = drop_at met.picture (drop (w * h) b.picture) (w * h) good_met.picture_length;
      output_rest = drop_at met.output (drop (block_words S * (w * h)) b.output) (block_words S * (w * h)) good_met.output_length;
      marks_rest = drop_at (map byte_of met.stale) (drop (w * h) b.marks) (w * h) bytes_met;
    })

    left_of : (s : State) → Good S w h s → (e : Buffers) → e ≡ keep s → left S w h e ≡ count s.stale
    left_of s g e q = ap (left S w h) q ∙ ap count (stale_held S w h s g (drop (w * h) b.marks))

    left_met : left S w h e ≡ count met.stale
    left_met = left_of met good_met e ended.1

    block_met : (bx by : ℕ) → bx < w → by < h → get_or met.stale (by * w + bx) true ≡ false
        → block_at S w h bx by e.output ≡ S.draw q w h (take (w * h) e.picture) bx by
    block_met bx by x y f =
        ap (λ (l : Buffers). block_at S w h bx by l.output) ended.1
        ∙ block_append S L w h (drop (block_words S * (w * h)) b.output) met good_met bx by x y
        ∙ block_drawn S L w h met good_met bx by x y f
        ∙ ap₂ (λ (c : Clarity) (p : List ℕ). S.draw c w h p bx by) setting_met (sym holds.picture_same)

    pub picture_met : length (take (w * h) e.picture) ≡ w * h
    picture_met = ap length holds.picture_same ∙ good_met.picture_length

    follows : Follows S w h q b stale cs rs last e
    unfolding done
    follows = record {
      same_count = ap (λ (d : OpenEnd). d.stale) opening.1 ∙ sym (count_replicate (w * h));
      same_answers = ended.2;
      same_state = holds;
      blocks = λ bx by x y f. (
        block_met bx by x y f ∙ sym (whole_drawn S L w h q sizes.2 (take (w * h) e.picture) picture_met bx by x y),
        block_met bx by x y f,
      );
      counts_down = λ n k cs' rs' last' e' f r.
          left_of (after S w h cs' met) (good_after S L w h cs' met good_met) e' (more r met good_met ended.0 ended.1).1
          ∙ further_count S L w h n met f ∙ ap (λ (c : ℕ). c - k * n) (sym left_met);
    }

pub every : (S : Screen) → Lawful S → Demand3 S
every S L = record {
  each = λ {w} {h} {stale} {c} {b} t. follows S L w h c b t;
  two = λ {w} {h} {stale} {stale'} {c} {c'} {b} {b'} q t t' p z z'.
      (holds S L w h c b t).output_same
      ∙ good_same S L w h (met S L w h c b t) (met S L w h c' b' t')
      (ap plainly (setting_met S L w h c b t) ∙ q ∙ ap plainly (sym (setting_met S L w h c' b' t')))
      (good_met S L w h c b t) (good_met S L w h c' b' t')
      (sym (holds S L w h c b t).picture_same ∙ p ∙ (holds S L w h c' b' t').picture_same)
      (sym (left_met S L w h c b t) ∙ z) (sym (left_met S L w h c' b' t') ∙ z')
      ∙ sym (holds S L w h c' b' t').output_same;
}

-- a list that ends with nothing stale holds the present picture enlarged whole at the session's setting
pub ended_whole : (S : Screen) → Lawful S → {w h stale : ℕ} {c : Clarity} {b e : Buffers} {cs : List Call} {rs : List Answer} {last : Header}
    → Trace S w h c b stale cs rs last e → left S w h e ≡ 0 → take (block_words S * (w * h)) e.output ≡ whole S w h c (take (w * h) e.picture)
ended_whole S L {w} {h} {stale} {c} {b} {e} t z =
    let p : List ℕ = take (w * h) e.picture in
    let l = picture_met S L w h c b t in
    let v = (sizes S L w h c b t).2 in
    (holds S L w h c b t).output_same
    ∙ good_same S L w h (met S L w h c b t) (full S L w h c v p)
    (ap plainly (setting_met S L w h c b t ∙ sym (full_same S L w h c v p).1))
    (good_met S L w h c b t) (full_good S L w h c v p l)
    (sym (holds S L w h c b t).picture_same ∙ sym (full_same S L w h c v p).0) (sym (left_met S L w h c b t) ∙ z) (full_count S L w h c v p)
    ∙ full_output S L w h c v p
