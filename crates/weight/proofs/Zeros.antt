-- The corner weight where the edge distance and both primary distances are 0, of either sign, for all other operands: the product of the two, and +0 behind a gate. Assumes nothing.
use mathlib.Core.Path.{◌≡◌, refl, sym, ap, ◌∙◌}
use mathlib.Core.Logic.{inl, inr}
use Prim.Native.Nat.{ℕ, ◌*◌, ◌<◌}
use native.Mathlib.Nat.{zero-mul, mul-zero, mul-pos, eq-zero-or-pos, lt_irrefl}
use mathlib.Core.Bool.{Bool, true, false, not, cond, true≢false}
use lib.IntN.{ℤ, pos}
use lib.Dec.{T, eqb, lit<}
use lib.Ieee.{Float, nan, inf, fin, binary32, up, down, unlike, neg, round, sum, add, sub, mul, lt, eq}
use lib.Ieee.Fits.{up_pos, down_pos}
use borrow.Author.Tests.{eqb-true}
use Rattle.single.specs.Single.{f0, f½, f1, f2, ◌⊕◌, ◌⊖◌, ◌⊗◌, ◌⊘◌, max_of, min_of, clamp_of}
use Rattle.single.specs.Root.{rooted}
use Rattle.clarity.specs.declared.Clarity.TheVariants.{Standard, Threshold, Gated}
use Rattle.weight.specs.Weight.{weight_at, corner_weight_of}
use Rattle.clarity.specs.Clarity.{lawful_single}
use Rattle.metric.proofs.Channels.{both}
use Rattle.nonneg.proofs.Nonneg as Nonneg
use Rattle.nonneg.proofs.Nonneg.{round_zero}
use Rattle.clarity.proofs.Thresholds.{lawful_positive, positive_rooted, lawful_threshold}
use Rattle.weight.proofs.Threshold.{minus_zero, plain_rooted}

-- what equals 0 is a zero
shape : (P : Float → Type 0) → ((s : Bool) (e : ℤ) → P (fin s 0 e)) → (x : Float) → eq x f0 ≡ true → P x
unfolding eq
shape P h nan t = absurd (true≢false (sym t))
shape P h (inf s) t = absurd (true≢false (sym t))
shape P h (fin s m e) t = rw (none m (up e) (up_pos e) (eqb-true (m * up e * 1) (0 * down e) (both (eqb (m * up e * 1) (0 * down e)) _ t).0 ∙ zero-mul (down e))) (h s e)
  where
    none : (m u : ℕ) → 0 < u → m * u * 1 ≡ 0 → m ≡ 0
    none m u U z = elim (eq-zero-or-pos m) [ inl e ↦ e | inr p ↦ absurd (lt_irrefl 0 (rw z at (mul-pos (mul-pos p U) (lit< {m = 0} {n = 1} tt)))) ]

one_less : (s : Bool) (e : ℤ) → f1 ⊖ fin s 0 e ≡ f1
one_less s e = minus_zero f1 tt s e ∙ (unfold round in refl)

-- a product with a zero
product : (s t : Bool) (m : ℕ) (d e : ℤ) → fin s m d ⊗ fin t 0 e ≡ fin (unlike s t) 0 (pos 0)
unfolding mul
product s t m d e = rw (zero-mul (up e), mul-zero (m * up d)) (round_zero (unlike s t) (down d * down e) (mul-pos (down_pos d) (down_pos e)))

-- a sum of zeros
zero_sum : (a b : Bool) (d e : ℤ) → (s : Bool) × (fin a 0 d ⊕ fin b 0 e ≡ fin s 0 (pos 0))
unfolding add
zero_sum a b d e = rw (zero-mul (up d), zero-mul (up e), zero-mul (down d), zero-mul (down e)) (sums a b)
  where
    c : ℕ
    c = down d * down e

    C : 0 < c
    C = mul-pos (down_pos d) (down_pos e)

    sums : (a b : Bool) → (s : Bool) × (sum binary32 a 0 b 0 c ≡ fin s 0 (pos 0))
    sums true true = unfold sum in (true, round_zero true c C)
    sums true false = unfold sum in (false, round_zero false c C)
    sums false true = unfold sum in (false, round_zero false c C)
    sums false false = unfold sum in (false, round_zero false c C)

-- 1 and a difference of zeros, of either sign
one_more : (t a b : Bool) (d e : ℤ) → f1 ⊕ cond t (fin a 0 d ⊖ fin b 0 e) (neg (fin a 0 d ⊖ fin b 0 e)) ≡ f1
one_more t a b d e = go (zero_difference a b)
  where
    zero_difference : (a b : Bool) → (s : Bool) × (fin a 0 d ⊖ fin b 0 e ≡ fin s 0 (pos 0))
    zero_difference a b = unfold sub neg in zero_sum a (not b) d e

    go : (s : Bool) × (fin a 0 d ⊖ fin b 0 e ≡ fin s 0 (pos 0)) → f1 ⊕ cond t (fin a 0 d ⊖ fin b 0 e) (neg (fin a 0 d ⊖ fin b 0 e)) ≡ f1
    go (s, z) = rw z (sums t s)
      where
        sums : (t s : Bool) → f1 ⊕ cond t (fin s 0 (pos 0)) (neg (fin s 0 (pos 0))) ≡ f1
        sums true true = unfold add neg in refl
        sums true false = unfold add neg in refl
        sums false true = unfold add neg in refl
        sums false false = unfold add neg in refl

clamped : clamp_of f1 f0 f1 ≡ f1
unfolding clamp_of lt
clamped = refl

plain : (s : Bool) → unlike false s ≡ s
plain true = refl
plain false = refl

-- a zero times a value without a sign bit
times_zero : (x : Float) → T (rooted x) → (s : Bool) (e : ℤ) → x ⊗ fin s 0 e ≡ fin s 0 (pos 0)
times_zero x p s e = Nonneg.shape (λ (x : Float). x ⊗ fin s 0 e ≡ fin s 0 (pos 0)) (λ m d. product false s m d e ∙ ap (λ (s : Bool). fin s 0 (pos 0)) (plain s)) x p

abbrev at_first : Float → Float → Float → Float → Bool → Float
at_first t e p0 p1 first = max_of (t ⊖ e) f0 ⊘ t ⊗ clamp_of (f1 ⊖ e ⊕ cond first (p0 ⊖ p1) (neg (p0 ⊖ p1))) f0 f1 ⊗ p0 ⊗ p1

module _ (t : Float) (l : T (lawful_single t)) where
  abbrev clear : T (rooted t)
  clear = positive_rooted t (lawful_positive t l)

  zeros : (a b c : Bool) (d f g : ℤ) (first : Bool) → fin b 0 f ⊗ fin c 0 g ≡ at_first t (fin a 0 d) (fin b 0 f) (fin c 0 g) first
  zeros a b c d f g first =
      let same : t ⊖ fin a 0 d ≡ t ⊖ f0 = minus_zero t clear a d ∙ sym (minus_zero t clear false (pos 0)) in
      rw (same, one_less a d, one_more first b c f g, clamped, times_zero (max_of (t ⊖ f0) f0 ⊘ t ⊗ f1) (plain_rooted t l) b f, product b c 0 (pos 0) g, product b c 0 f g)

  zero_product : (e p0 p1 : Float) (first : Bool) → eq e f0 ≡ true → eq p0 f0 ≡ true → eq p1 f0 ≡ true → p0 ⊗ p1 ≡ at_first t e p0 p1 first
  zero_product e p0 p1 first i j k =
      shape (λ (e : Float). p0 ⊗ p1 ≡ at_first t e p0 p1 first)
      (λ a d. shape (λ (p0 : Float). p0 ⊗ p1 ≡ at_first t (fin a 0 d) p0 p1 first)
      (λ b f. shape (λ (p1 : Float). fin b 0 f ⊗ p1 ≡ at_first t (fin a 0 d) (fin b 0 f) p1 first)
      (λ c g. zeros a b c d f g first)
      p1 k) p0 j) e i

-- a gate is closed
closed : (e p0 p1 : Float) → eq e f0 ≡ true → eq p0 f0 ≡ true → eq p1 f0 ≡ true → lt (f2 ⊗ e) (p0 ⊕ p1) ≡ false
closed e p0 p1 i j k =
    shape (λ (e : Float). lt (f2 ⊗ e) (p0 ⊕ p1) ≡ false)
    (λ a d. shape (λ (p0 : Float). lt (f2 ⊗ fin a 0 d) (p0 ⊕ p1) ≡ false)
    (λ b f. shape (λ (p1 : Float). lt (f2 ⊗ fin a 0 d) (fin b 0 f ⊕ p1) ≡ false)
    (λ c g. at a b c d f g)
    p1 k) p0 j) e i
  where
    none : (a s : Bool) → lt (fin a 0 (pos 0)) (fin s 0 (pos 0)) ≡ false
    none true true = unfold lt in refl
    none true false = unfold lt in refl
    none false true = unfold lt in refl
    none false false = unfold lt in refl

    at : (a b c : Bool) (d f g : ℤ) → lt (f2 ⊗ fin a 0 d) (fin b 0 f ⊕ fin c 0 g) ≡ false
    at a b c d f g = let z = zero_sum b c f g in rw (times_zero f2 tt a d, z.1) (none a z.0)

module _ (e p0 p1 s0 s1 : Float) (i : eq e f0 ≡ true) (j : eq p0 f0 ≡ true) (k : eq p1 f0 ≡ true) where
  at_zeros : (t : Float) → T (lawful_single t) → p0 ⊗ p1 ≡ weight_at t e p0 p1 s0 s1
  unfolding weight_at
  at_zeros t l = zero_product t l e p0 p1 (lt (min_of p1 s1 ⊕ p1) (min_of p0 s0 ⊕ p0)) i j k

  pub zero_standard : p0 ⊗ p1 ≡ corner_weight_of Standard e p0 p1 s0 s1
  unfolding corner_weight_of
  zero_standard = at_zeros f½ (lawful_threshold Standard tt)

  pub zero_threshold : (t : Float) → T (lawful_single t) → p0 ⊗ p1 ≡ corner_weight_of (Threshold t) e p0 p1 s0 s1
  unfolding corner_weight_of
  zero_threshold t l = at_zeros t l

  pub zero_gated : (t : Float) → f0 ≡ corner_weight_of (Gated t) e p0 p1 s0 s1
  unfolding corner_weight_of
  zero_gated t = rw (closed e p0 p1 i j k)
