-- The numbers of a header and the setting that they stand for: the patterns from 1 to that of 1.0 are those of the singles above 0 and at most 1, and no other
-- is, be it of a zero, of a negative, of what is above 1, of an infinity or of a NaN. Assumes nothing.
use mathlib.Core.Path.{◌≡◌, refl, sym, ap, ◌∙◌}
use Prim.Native.Nat.{ℕ, ◌*◌, ◌^◌, ◌≤◌, ◌<◌}
use native.Mathlib.Nat.{zero-mul, mul-pos}
use native.Mathlib.Omega.{arith}
use mathlib.Core.Bool.{Bool, true, false, not, ◌||◌, cond, true≢false}
use lib.Dec.{T, eqb, ltb, ltb→lt, lt→ltb, not_T, lit<}
use lib.Ieee.{Float, nan, inf, fin, binary32, up, down, of_bits, to_bits, lt, le, fits}
use lib.Ieee.Fits.{up_pos, and_i, and_r}
use lib.Ieee.Bits.{is_true, is_false, of_bits-to_bits}
use lib.Ieee.Positive.{positive, positive_of_value}
use borrow.Author.Tests.{eqb-true, eqb-false, ltb-true, ltb-false}
use Rattle.single.specs.Single.{f0, f1}
use Rattle.single.specs.Root.{single, rooted}
use Rattle.single.proofs.Laws.{single_mono}
use Rattle.single.proofs.Floats.{has_value, of_bits_rooted, of_bits_mono}
use Rattle.clarity.specs.declared.Clarity.TheVariants.{Standard, Threshold, Gated}
use Rattle.clarity.specs.Clarity.{lawful_single, lawful_of, plainly, setting_of, clarity_of}
use Rattle.nonneg.proofs.Nonneg.{le_trans'}
use Rattle.clarity.proofs.Thresholds.{lawful_positive, positive_rooted}

zero_unlawful : lawful_single f0 ≡ false
unfolding lt
zero_unlawful = refl

zero_of : of_bits binary32 0 ≡ f0
unfolding of_bits
zero_of = refl

one_of : of_bits binary32 0x3f80_0000 ≡ f1
unfolding of_bits
one_of = refl

-- the next single after 1
next : T (rooted (of_bits binary32 0x3f80_0001))
unfolding of_bits
next = tt

past_one : T (le (of_bits binary32 0x3f80_0001) f1) → ⊥
unfolding of_bits le
past_one h = h

least : single 1 ≡ 1
unfolding single
least = refl

positive_above : (x : Float) → T (positive x) → T (lt f0 x)
unfolding lt
positive_above nan p = absurd p
positive_above (inf s) p = absurd p
positive_above (fin true m e) p = absurd p
positive_above (fin false m e) p = rw (zero-mul (down e)) (lt→ltb 0 (m * up e * 1) (mul-pos (mul-pos (ltb→lt 0 m p) (up_pos e)) (lit< {m = 0} {n = 1} tt)))

module _ (b : ℕ) where
  abbrev x : Float
  x = of_bits binary32 b

  inside : 1 ≤ b → b ≤ 0x3f80_0000 → T (lawful_single x)
  inside l h =
      let v = has_value b (omega arith) in
      let some : 1 ≤ single b = rw least at (single_mono 1 b l) in
      and_i (lt f0 x) (le x f1) (positive_above x (positive_of_value x (single b) (2 ^ 149) v some)) (rw one_of at (of_bits_mono b 0x3f80_0000 h (omega arith)))

  outside : 0x3f80_0000 < b → T (lawful_single x) → ⊥
  outside h t =
      let r = positive_rooted x (lawful_positive x t) in
      let m = of_bits_mono 0x3f80_0001 b h (of_bits_rooted b r) in
      past_one (le_trans' (of_bits binary32 0x3f80_0001) x f1 next r tt m (and_r (lt f0 x) (le x f1) t))

  pub lawful_bits : lawful_single x ≡ not (eqb b 0 || ltb 0x3f80_0000 b)
  lawful_bits = go (eqb b 0) (ltb 0x3f80_0000 b) refl refl
    where
      above_zero : (n : ℕ) → (n ≡ 0 → ⊥) → 1 ≤ n
      above_zero n h = omega (arith, h)

      go : (z h : Bool) → eqb b 0 ≡ z → ltb 0x3f80_0000 b ≡ h → lawful_single x ≡ not (z || h)
      go true h e f = ap (λ (n : ℕ). lawful_single (of_bits binary32 n)) (eqb-true b 0 e) ∙ ap lawful_single zero_of ∙ zero_unlawful
      go false true e f = is_false (lawful_single x) (not_T (lawful_single x) (outside (ltb-true 0x3f80_0000 b f)))
      go false false e f = is_true (lawful_single x) (inside (above_zero b (eqb-false b 0 e)) (ltb-false 0x3f80_0000 b f))

-- ---- the test of the pattern is the test of the single that it stands for
abbrev counted : ℕ → Float
counted bits = cond (eqb bits 0 || ltb 0x3f80_0000 bits) f0 (of_bits binary32 bits)

counted_lawful : (x : Float) (o : Bool) → lawful_single x ≡ not o → lawful_single (cond o f0 x) ≡ lawful_single x
counted_lawful x true e = zero_unlawful ∙ sym e
counted_lawful x false e = refl

setting_lawful : (x y : Float) (k i j : Bool) → lawful_single x ≡ lawful_single y
    → lawful_of (cond k Standard (cond i (Threshold x) (cond j (Gated x) (Threshold f0))))
    ≡ lawful_of (cond k Standard (cond i (Threshold y) (cond j (Gated y) (Threshold f0))))
setting_lawful x y true i j e = refl
setting_lawful x y false true j e = e
setting_lawful x y false false true e = e
setting_lawful x y false false false e = refl

-- a header's numbers are lawful exactly when the same kind and the pattern's single are, be that one no number
pub numbers_lawful : (kind bits : ℕ) → lawful_of (clarity_of kind bits) ≡ lawful_of (setting_of kind (of_bits binary32 bits))
numbers_lawful kind bits =
    setting_lawful (counted bits) (of_bits binary32 bits) (eqb kind 0) (eqb kind 1) (eqb kind 2)
    (counted_lawful (of_bits binary32 bits) (eqb bits 0 || ltb 0x3f80_0000 bits) (lawful_bits bits))

-- ---- a lawful setting's numbers stand for it

inner : (t : Float) → T (fits binary32 t) → T (lawful_single t) → (eqb (to_bits binary32 t) 0 || ltb 0x3f80_0000 (to_bits binary32 t)) ≡ false
inner t f l = none _ (sym (lawful_bits (to_bits binary32 t)) ∙ ap lawful_single (of_bits-to_bits binary32 t f) ∙ is_true (lawful_single t) l)
  where
    none : (o : Bool) → not o ≡ true → o ≡ false
    none true e = absurd (true≢false (sym e))
    none false e = refl

pub threshold_again : (t : Float) → T (fits binary32 t) → T (lawful_single t) → clarity_of 1 (to_bits binary32 t) ≡ Threshold t
threshold_again t f l = rw (inner t f l, of_bits-to_bits binary32 t f)

pub gated_again : (t : Float) → T (fits binary32 t) → T (lawful_single t) → clarity_of 2 (to_bits binary32 t) ≡ Gated t
gated_again t f l = rw (inner t f l, of_bits-to_bits binary32 t f)

-- ---- kind 0, whatever single or pattern stands beside it, counts as kind 1 with that of 0.5
pub standard_numbers : (t : Float) (bits : ℕ) → (plainly (setting_of 0 t) ≡ plainly (setting_of 1 (of_bits binary32 0x3f00_0000)))
    × (plainly (clarity_of 0 bits) ≡ plainly (clarity_of 1 0x3f00_0000))
unfolding of_bits
standard_numbers t bits = (refl, refl)
