-- Each item of a paint list is refused at its turn, on the picture as the items before it leave it, exactly where it is refused on the
-- picture at the start: no paint alters a word inside the lock, and only there does a refusal depend on a word. Assumes nothing.
use mathlib.Core.Path.{◌≡◌, refl, sym, ap, ap₂, ◌∙◌}
use mathlib.Core.Logic.{⊎_elim}
use mathlib.Core.Bool.{Bool, true, false, cond, true≢false}
use mathlib.Core.List.{List, [], ◌∷◌}
use Prim.Native.Nat.{ℕ, ◌+◌, ◌*◌, ◌<◌}
use native.Mathlib.Omega.{arith}
use lib.Dec.{ltb, eqb}
use lib.ListN.{length, get_or}
use lib.Seq.{get_or-set_other}
use Rattle.header.specs.declared.Header.{Header}
use Rattle.header.specs.Header.{locked}
use Rattle.paints.specs.declared.Paint.{Paint}
use Rattle.machine.specs.Screen.{Screen}
use Rattle.machine.specs.Machine.{or_else, inside}
use Rattle.machine.specs.Calls.{refusal_word, refusal_lent, refusal_list, PaintEnd, paint_end, items_end}
use Rattle.machine.specs.Items.{refusal_items}
use Rattle.machine.specs.Claims.{ItemsAtStart}
use Rattle.machine.proofs.Places.{digits_same}
use Rattle.machine.proofs.Held.{inside_of}
use Rattle.machine.proofs.Ends.{decided, lent_after, lent_paint}
use Rattle.machine.proofs.PaintEnds.{by_paint_end, number_of, picture_length, marks_length}

-- a number that is 0 either way
none_either : (u : Bool) → cond {A = ℕ} u 0 0 ≡ 0
none_either true = refl
none_either false = refl

-- at a position inside the picture, a word that is another is not refused only where the position is not locked
free : (i u k : Bool) → ◌≡◌ {A = ℕ} (cond i (cond u 0 (cond k 11 0)) 5) 0 → u ≡ false → k ≡ false
free true true k e f = absurd (true≢false f)
free true false true e f = absurd (omega arith)
free true false false e f = refl
free false u k e f = absurd (omega arith)

module _ (S : Screen) (header : Header) where
  abbrev w : ℕ
  w = header.w

  abbrev h : ℕ
  h = header.h

  -- the word at (column, row)
  abbrev word_at : List ℕ → ℕ → ℕ → ℕ
  word_at p column row = get_or p (row * w + column) 0

  -- two pictures have the same words inside the lock
  abbrev Agree : List ℕ → List ℕ → Type 0
  Agree p q = (column row : ℕ) → column < w → row < h → locked header.lock column row ≡ true → word_at p column row ≡ word_at q column row

  -- so a paint is refused on both or on neither
  word_same : (p q : List ℕ) → Agree p q → (column row word : ℕ) → refusal_word header p column row word ≡ refusal_word header q column row word
  word_same p q a column row word = by_inside (inside w h column row) refl
    where
      own : List ℕ → Bool → ℕ
      own l k = cond (eqb word (word_at l column row)) 0 (cond k 11 0)

      by_lock : column < w → row < h → (k : Bool) → locked header.lock column row ≡ k → own p k ≡ own q k
      by_lock c r true e = ap (λ (x : ℕ). cond (eqb word x) 0 11) (a column row c r e)
      by_lock c r false e = none_either (eqb word (word_at p column row)) ∙ sym (none_either (eqb word (word_at q column row)))

      by_inside : (b : Bool) → inside w h column row ≡ b
          → cond b (own p (locked header.lock column row)) 5 ≡ cond b (own q (locked header.lock column row)) 5
      by_inside true e = let i = inside_of w h column row e in by_lock i.0 i.1 (locked header.lock column row) refl
      by_inside false e = refl

  -- no paint alters a word inside the lock
  keeps : (p m : List ℕ) (column row word : ℕ) → Agree p (paint_end S header p m column row word).picture
  keeps p m column row word column' row' c' r' k =
      by_paint_end S header p m column row word (λ d. word_at p column' row' ≡ word_at d.picture column' row') (λ z. refl) (λ z q. refl)
      (λ z f.
      let l = lent_paint S header p (length m) column row word z in
      let own = lent_after S.side header (length p) (length m) _ z in
      sym (get_or-set_other p (row * w + column) (row' * w + column') word 0
      (λ q. let d = digits_same row' row w column' column c' l.across q in
      true≢false
      (sym k ∙ ap₂ (locked header.lock) d.1 d.0
      ∙ free (inside w h column row) (eqb word (word_at p column row)) (locked header.lock column row) own f))))

  -- ---- the items, where the header is not refused and the buffers are long enough

  module _ (P M : ℕ) (fits : (x : ℕ) → refusal_lent S.side header P M x ≡ x) (start : List ℕ) where
    at_its_turn : (items : List Paint) (p m : List ℕ) → length p ≡ P → length m ≡ M → Agree start p
        → (items_end S header items p m).refusal ≡ refusal_items header start items
    at_its_turn [] p m lp lm a = refl
    at_its_turn (i ∷ is) p m lp lm a =
        ap₂ or_else
        (number_of S header p m i.column i.row i.word
        ∙ ap₂ (λ (j k : ℕ). refusal_lent S.side header j k (refusal_word header p i.column i.row i.word)) lp lm
        ∙ fits (refusal_word header p i.column i.row i.word)
        ∙ sym (word_same start p a i.column i.row i.word))
        (at_its_turn is d.picture d.marks (picture_length S header p m i.column i.row i.word ∙ lp) (marks_length S header p m i.column i.row i.word ∙ lm)
        (λ c r x y k. a c r x y k ∙ keeps p m i.column i.row i.word c r x y k))
      where
        d : PaintEnd
        d = paint_end S header p m i.column i.row i.word

  -- the call's number, where the items are held to the picture at its start
  pub number_at_start : (p m : List ℕ) (items : List Paint) (n : ℕ)
      → refusal_list S.side header (length p) (length m) n (items_end S header items p m).refusal
      ≡ refusal_list S.side header (length p) (length m) n (refusal_items header p items)
  number_at_start p m items n =
      ⊎_elim (λ t. t.1 _ ∙ sym (t.1 _))
      (λ q. q _ ∙ ap (λ (x : ℕ). cond (ltb 64 n) 12 x) (at_its_turn (length p) (length m) q p items p m refl refl (λ c r x y k. refl)) ∙ sym (q _))
      (decided S.side header (length p) (length m))

pub items_at_start : (S : Screen) → ItemsAtStart S
items_at_start S = record { number_at_start = number_at_start S }
