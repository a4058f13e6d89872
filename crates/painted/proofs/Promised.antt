-- What a paint and a paint list promise, by the screen's own side: of a call that is refused and of one that is not, and what the marks of
-- one that is not leave to count. Assumes nothing.
use mathlib.Core.Path.{◌≡◌, refl, sym, ap, ◌∙◌}
use mathlib.Core.List.{List}
use Prim.Native.Nat.{ℕ, ◌*◌, ◌≤◌}
use native.Mathlib.Omega.{arith}
use lib.ListN.{length, take}
use Rattle.picture.specs.declared.refusal.Refusal.{Refusal}
use Rattle.picture.specs.Answer.{number_of}
use Rattle.header.specs.declared.Header.{Header}
use Rattle.paints.specs.declared.Paint.{Paint}
use Rattle.paints.specs.Paints.{listed}
use Rattle.machine.specs.Lists.{count}
use Rattle.machine.specs.Calls.{refusal_paint, refusal_list, items_end, Paints, PaintLists}
use Rattle.machine.specs.Items.{refusal_items, StoresWord, StoresItems}
use Rattle.machine.proofs.Places.{area}
use Rattle.machine.proofs.Ends.{lent_paint}
use Rattle.machine.proofs.PaintEnds.{marks_length, paint_refused, paint_done}
use Rattle.machine.proofs.ListEnds.{items_marks_length, list_refused, lent_list, items_taken, list_done}
use Rattle.marks.specs.Marks.{stale_in}
use Rattle.refusals.proofs.Numbers.{numbered}
use Rattle.screens.specs.Screens.{screen_of}
use Rattle.screens.proofs.Screens.{within}

-- n marks can be counted
abbrev Counts : ℕ → List ℕ → Type 0
Counts n m = (0 ≤ n) × ((n ≤ 2048 * 2048) × (n ≤ length m))

module _ (scale side : ℕ) (by_side : side ≡ (screen_of scale).side) (header : Header) (p m : List ℕ) where
  abbrev blocks : ℕ
  blocks = header.w * header.h

  counts : header.w ≤ (screen_of scale).side → header.h ≤ (screen_of scale).side → blocks ≤ length m
      → (m' : List ℕ) → length m' ≡ length m → (n : ℕ) → n ≡ blocks → Counts n m'
  counts wide high fits m' same n en =
      let small = area header.w header.h (within scale wide) (within scale high) in
      (omega arith, (omega (arith, small, en), omega (arith, fits, same, en)))

  module _ (column row word : ℕ) where
    paint_of : (r : ℕ) → r ≡ refusal_paint side header p (length m) column row word
        → r ≡ refusal_paint (screen_of scale).side header p (length m) column row word
    paint_of r q = q ∙ ap (λ (s : ℕ). refusal_paint s header p (length m) column row word) by_side

    pub paint_told : (e : Refusal) → number_of e ≡ refusal_paint side header p (length m) column row word
        → Paints (screen_of scale) header p m column row word
        (record { picture = p; marks = m; refusal = number_of e; changed = 0; stale = 0 })
    paint_told e q = paint_refused (screen_of scale) header p m column row word (number_of e) (paint_of (number_of e) q) (numbered e)

    module _ (q : 0 ≡ refusal_paint side header p (length m) column row word) where
      pub paint_free : refusal_paint (screen_of scale).side header p (length m) column row word ≡ 0
      paint_free = sym (paint_of 0 q)

      module _ (p' m' : List ℕ) (c : ℕ) (stored : StoresWord (screen_of scale) header p m column row word p' m' c)
          (n : ℕ) (en : n ≡ blocks) where
        pub paint_counts : Counts n m'
        paint_counts =
            let l = lent_paint (screen_of scale) header p (length m) column row word paint_free in
            counts l.wide l.high l.for_marks m' (ap length stored.1.0 ∙ marks_length (screen_of scale) header p m column row word) n en

        pub paint_taken : (k : ℕ) → k ≡ count (stale_in 0 n m')
            → Paints (screen_of scale) header p m column row word (record { picture = p'; marks = m'; refusal = 0; changed = c; stale = k })
        paint_taken k ek =
            paint_done (screen_of scale) header p m column row word paint_free p' m' c k stored
            (ek ∙ ap (λ (n : ℕ). count (stale_in 0 n m')) en)

  module _ (n : ℕ) (a : List Paint) (full : length a ≡ 64) where
    list_of : (r : ℕ) → r ≡ refusal_list side header (length p) (length m) n (refusal_items header p (take n a))
        → r ≡ refusal_list (screen_of scale).side header (length p) (length m) n (refusal_items header p (take n a))
    list_of r q = q ∙ ap (λ (s : ℕ). refusal_list s header (length p) (length m) n (refusal_items header p (take n a))) by_side

    pub list_told : (e : Refusal) → number_of e ≡ refusal_list side header (length p) (length m) n (refusal_items header p (take n a))
        → PaintLists (screen_of scale) header p m (listed n a) (record { picture = p; marks = m; refusal = number_of e; stale = 0 })
    list_told e q = list_refused (screen_of scale) header p m n a full (number_of e) (list_of (number_of e) q) (numbered e)

    module _ (q : 0 ≡ refusal_list side header (length p) (length m) n (refusal_items header p (take n a))) where
      pub list_free : (items_end (screen_of scale) header (take n a) p m).refusal ≡ 0
      list_free = items_taken (screen_of scale) header p m n a full 0 (list_of 0 q) refl

      module _ (p' m' : List ℕ) (stored : StoresItems (screen_of scale) header p m (take n a) p' m') (b : ℕ) (eb : b ≡ blocks) where
        pub list_counts : Counts b m'
        list_counts =
            let l = lent_list (screen_of scale) header p m n a full 0 (list_of 0 q) refl in
            counts l.wide l.high l.for_marks m' (ap length stored.1 ∙ items_marks_length (screen_of scale) header (take n a) p m) b eb

        pub list_taken : (k : ℕ) → k ≡ count (stale_in 0 b m')
            → PaintLists (screen_of scale) header p m (listed n a) (record { picture = p'; marks = m'; refusal = 0; stale = k })
        list_taken k ek =
            list_done (screen_of scale) header p m n a full 0 (list_of 0 q) refl p' m' k stored
            (ek ∙ ap (λ (b : ℕ). count (stale_in 0 b m')) eb)
