-- What a paint list leaves and answers, from its refusal and from what its parts do. Assumes nothing.
use mathlib.Core.Path.{◌≡◌, refl, sym, ap, ap₂, ◌∙◌, subst, subst₂}
use mathlib.Core.Logic.{⊎_elim}
use mathlib.Core.Bool.{Bool, false, cond}
use mathlib.Core.List.{List, [], ◌∷◌}
use Prim.Native.Nat.{ℕ, zero, suc, ◌+◌, ◌*◌, ◌≤◌, ◌<◌}
use native.Mathlib.Decide.{dec_le}
use native.Mathlib.Omega.{arith}
use lib.Dec.{ltb, eqb}
use lib.ListN.{length, get_or, take, drop}
use borrow.Author.Tests.{ne_eqb, eq-eqb, ltb-false, lt-ltb}
use Rattle.header.specs.declared.Header.{Header}
use Rattle.paints.specs.declared.Paint.{Paint}
use Rattle.paints.specs.Paints.{blank, gathered, few_of, listed}
use Rattle.paints.proofs.Laws.{length_gathered, length_listed, listed_few, listed_gathered, next_item}
use Rattle.machine.specs.Lists.{count}
use Rattle.machine.specs.Screen.{Screen}
use Rattle.machine.specs.Machine.{or_else}
use Rattle.machine.specs.Calls.{stale_of, refusal_lent, refusal_paint, refusal_list, PaintEnd, PaintListEnd, paint_end, items_end, paint_list_end, PaintLists}
use Rattle.machine.specs.Items.{refusal_items, StoresWord, StoresItems}
use Rattle.machine.specs.Lent.{LentList}
use Rattle.machine.proofs.Held.{unmet}
use Rattle.machine.proofs.Ends.{decided, header_lent, lent_after}
use Rattle.machine.proofs.PaintEnds.{number_of, picture_length, marks_length}
use Rattle.machine.proofs.Turns.{number_at_start}

-- of two refusals none is one
neither : (a b : ℕ) → or_else a b ≡ 0 → (a ≡ 0) × (b ≡ 0)
neither zero b e = (refl, e)
neither (suc a) b e = absurd (omega arith)

-- the first of two, and the second where there is no first
pub first_of : (a b : ℕ) → (a ≡ 0 → ⊥) → a ≡ or_else a b
first_of zero b z = absurd (z refl)
first_of (suc a) b z = refl

pub second_of : (a b : ℕ) → a ≡ 0 → b ≡ or_else a b
second_of a b e = ap (λ (x : ℕ). or_else x b) (sym e)

module _ (S : Screen) (header : Header) where
  pub items_marks_length : (items : List Paint) (p m : List ℕ) → length (items_end S header items p m).marks ≡ length m
  items_marks_length [] p m = refl
  items_marks_length (x ∷ items) p m =
      let first = paint_end S header p m x.column x.row x.word in
      items_marks_length items first.picture first.marks ∙ marks_length S header p m x.column x.row x.word

  -- ---- the items that are left of a list, p and m being as those before left them: they leave p₁ and m₁, and none is refused
  abbrev pub Rest : List Paint → List ℕ → List ℕ → List ℕ → List ℕ → Type 0
  Rest items p m p₁ m₁ =
      let rest = items_end S header items p m in
      (rest.picture ≡ p₁) × ((rest.marks ≡ m₁) × (rest.refusal ≡ 0))

  -- item i of n in an array, with the items behind it left
  module _ (a : List Paint) (n i : ℕ) (l : i < n) (full : n ≤ length a) (p m p₁ m₁ : List ℕ) (r : Rest (drop i (take n a)) p m p₁ m₁) where
    abbrev x : Paint
    x = get_or a i blank

    these : Rest (x ∷ drop (i + 1) (take n a)) p m p₁ m₁
    these = subst (λ (items : List Paint). Rest items p m p₁ m₁) (next_item a n i blank l full) r

    abbrev first : PaintEnd
    first = paint_end S header p m x.column x.row x.word

    none : (first.refusal ≡ 0) × ((items_end S header (drop (i + 1) (take n a)) first.picture first.marks).refusal ≡ 0)
    none = neither first.refusal (items_end S header (drop (i + 1) (take n a)) first.picture first.marks).refusal these.1.1

    pub rest_word : refusal_paint S.side header p (length m) x.column x.row x.word ≡ 0
    rest_word = sym (number_of S header p m x.column x.row x.word) ∙ none.0

    pub rest_next : (p' m' : List ℕ) (c : ℕ) → StoresWord S header p m x.column x.row x.word p' m' c
        → (length p' ≡ length p) × ((length m' ≡ length m) × Rest (drop (i + 1) (take n a)) p' m' p₁ m₁)
    rest_next p' m' c q = (
      ap length q.0 ∙ picture_length S header p m x.column x.row x.word,
      (
        ap length q.1.0 ∙ marks_length S header p m x.column x.row x.word,
        subst₂ (λ (p m : List ℕ). Rest (drop (i + 1) (take n a)) p m p₁ m₁) (sym q.0) (sym q.1.0) (these.0, (these.1.0, none.1)),
      ),
    )

  -- ---- the call: a holds the first of n items, f is the refusal's number

  module _ (p m : List ℕ) (n : ℕ) (a : List Paint) (full : length a ≡ 64) (f : ℕ)
      (e : f ≡ refusal_list S.side header (length p) (length m) n (refusal_items header p (take n a))) where
    -- the items are those of the list, or too many
    number : f ≡ refusal_list S.side header (length p) (length m) (length (listed n a)) (items_end S header (listed n a) p m).refusal
    number = by_number (dec_le n 64) ∙ ap (λ (k : ℕ). refusal_list S.side header (length p) (length m) k (items_end S header (listed n a) p m).refusal) (sym (length_listed n a full))
      where
        own : List Paint → ℕ
        own items = (items_end S header items p m).refusal

        by_number : Dec (n ≤ 64) → f ≡ refusal_list S.side header (length p) (length m) n (own (listed n a))
        by_number (yes l) =
            e ∙ sym (number_at_start S header p m (take n a) n)
            ∙ ap (λ (items : List Paint). refusal_list S.side header (length p) (length m) n (own items)) (sym (listed_few n a l))
        by_number (no l) =
            e ∙ ap (λ (t : Bool). refusal_lent S.side header (length p) (length m) (cond t 12 (refusal_items header p (take n a)))) (lt-ltb 64 n (omega arith))
            ∙ sym (ap (λ (t : Bool). refusal_lent S.side header (length p) (length m) (cond t 12 (own (listed n a)))) (lt-ltb 64 n (omega arith)))

    pub list_refused : (f ≡ 0 → ⊥) → PaintLists S header p m (listed n a) (record { picture = p; marks = m; refusal = f; stale = 0 })
    unfolding paint_list_end
    list_refused z = record { is = rw (← number, ne_eqb f 0 z) }

    module _ (z : f ≡ 0) where
      -- what a list that is not refused was lent
      pub lent_list : LentList S header.w header.h (length m) n
      lent_list =
          let w = header.w in
          let h = header.h in
          let q = header_lent S header _ (sym e ∙ z) in
          let for_m = unmet (ltb (length m) (w * h)) 3 _ (unmet (ltb (length p) (w * h)) 1 _ q.2).1 in
          record {
            wide = q.0;
            high = q.1;
            for_marks = ltb-false (length m) (w * h) for_m.0;
            few = ltb-false 64 n (unmet (ltb 64 n) 11 _ (lent_after S.side header (length p) (length m) _ (sym e ∙ z))).0;
          }

      -- none of its items is refused at its turn
      pub items_taken : (items_end S header (take n a) p m).refusal ≡ 0
      items_taken =
          (unmet (ltb 64 n) 11 _
          (lent_after S.side header (length p) (length m) _ (number_at_start S header p m (take n a) n ∙ sym e ∙ z))).1

      pub list_done : (p' m' : List ℕ) (l : ℕ) → StoresItems S header p m (take n a) p' m' → l ≡ count (stale_of (header.w * header.h) m')
          → PaintLists S header p m (listed n a) (record { picture = p'; marks = m'; refusal = 0; stale = l })
      unfolding paint_list_end
      list_done p' m' l q el =
          record { is = rw (← number, eq-eqb f 0 z, el, q.0, q.1, listed_few n a lent_list.few) }

  -- two lists of the same length, which are the same unless it is past the limit
  list_same : (p m : List ℕ) (xs ys : List Paint) → length xs ≡ length ys → (length ys ≤ 64 → xs ≡ ys)
      → paint_list_end S header p m xs ≡ paint_list_end S header p m ys
  unfolding paint_list_end
  list_same p m xs ys n same = by_number (dec_le (length ys) 64)
    where
      -- a list past the limit is refused, if not for what the call was lent
      above : (k : ℕ) → refusal_lent S.side header (length p) (length m) 12 ≡ suc k → eqb (refusal_lent S.side header (length p) (length m) 12) 0 ≡ false
      above k e = ne_eqb (refusal_lent S.side header (length p) (length m) 12) 0 (λ z. omega (arith, e, z))

      refused : eqb (refusal_lent S.side header (length p) (length m) 12) 0 ≡ false
      refused = ⊎_elim (λ t. above t.0 (t.1 12)) (λ q. above 11 (q 12)) (decided S.side header (length p) (length m))

      by_number : Dec (length ys ≤ 64) → paint_list_end S header p m xs ≡ paint_list_end S header p m ys
      by_number (yes l) = ap (paint_list_end S header p m) (same l)
      by_number (no l) = rw (lt-ltb 64 (length xs) (omega (arith, n)), lt-ltb 64 (length ys) (omega arith), refused)

  -- what is said of n items and an array with the first of them is said of the list that they were gathered from
  pub list_gathered : (p m : List ℕ) (items : List Paint) (n k : ℕ) (a : List Paint) (e : PaintListEnd) → n ≡ length items → k ≡ few_of n
      → a ≡ gathered items k → PaintLists S header p m (listed n a) e → PaintLists S header p m items e
  list_gathered p m items n k a e en ek ea q =
      let all : ℕ = length items in
      let got : List Paint = gathered items (few_of all) in
      let same : a ≡ got = ea ∙ ap (gathered items) (ek ∙ ap few_of en) in
      record {
        is = q.is ∙ ap (paint_list_end S header p m) (ap₂ listed en same)
            ∙ list_same p m (listed all got) items (length_listed all got (length_gathered items (few_of all))) (listed_gathered items);
      }
