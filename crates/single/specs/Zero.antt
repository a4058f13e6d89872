-- The zeros, of either sign: their sums, and that none is below another. Assumes nothing.
use Rattle.std.specs.Prelude.{◌≡◌, refl, Bool, true, false, not, cond, ◌||◌, ◌⊎◌, ℕ, ◌*◌, ◌<◌, ℤ, T, eqb, Float}
use Rattle.std.proofs.Common.{sym, ap, ◌∙◌, inl, inr, zero-mul, mul-pos, eq-zero-or-pos, arith, eqb→eq, pow_pos}
use Rattle.std.specs.Bool.{beq}
use Rattle.std.specs.Float.{nan, inf, fin, binary32}
use Rattle.std.specs.Float.Ieee.{round, sum, add, mul, neg, lt, eq, below, unlike, up, down}
use Rattle.std.specs.Float.Ieee.Fits.{and_l, up_pos, down_pos}
use Rattle.std.specs.Float.Ieee.Scale.{round_same}
use Rattle.single.specs.Single.{f0, f2, ◌⊕◌, ◌⊗◌, min_of}

pub record Zero (x : Float) : Type 0 where
  pub sign : Bool
  pub exponent : ℤ
  pub is : x ≡ fin sign 0 exponent

pub zero : (x : Float) → T (eq x f0) → Zero x
unfolding eq
zero nan h = absurd h
zero (inf s) h = absurd h
zero (fin s m e) h = record { sign = s; exponent = e; is = ap (λ (n : ℕ). fin s n e) (none (eq-zero-or-pos m)) }
  where
    none : (m ≡ 0) ⊎ (0 < m) → m ≡ 0
    none (inl z) = z
    none (inr p) =
        omega (
          arith,
          mul-pos p (up_pos e),
          eqb→eq (m * up e * 1) (0 * down e) (and_l (eqb (m * up e * 1) (0 * down e)) (beq s false || eqb (m * up e * 1) 0) h),
        )

round_zero : (s : Bool) (c : ℕ) → 0 < c → Zero (round binary32 s 0 c)
unfolding round
round_zero s c h = record { sign = s; exponent = _; is = round_same binary32 s 0 c 0 1 h (pow_pos 0) (zero-mul 1 ∙ sym (zero-mul c)) }

pub neg_zero : {x : Float} → Zero x → Zero (neg x)
unfolding neg
neg_zero z = record { sign = not z.sign; exponent = z.exponent; is = ap neg z.is }

sum_zero : (s t : Bool) (c : ℕ) → 0 < c → Zero (sum binary32 s 0 t 0 c)
unfolding sum
sum_zero true true c h = round_zero true c h
sum_zero true false c h = round_zero false c h
sum_zero false true c h = round_zero false c h
sum_zero false false c h = round_zero false c h

pub add_zero : {x y : Float} → Zero x → Zero y → Zero (x ⊕ y)
unfolding add
add_zero z w =
    let e = z.exponent in
    let d = w.exponent in
    rw (z.is, w.is, zero-mul (up e), zero-mul (up d), zero-mul (down e), zero-mul (down d))
    (sum_zero z.sign w.sign (down e * down d) (mul-pos (down_pos e) (down_pos d)))

pub twice_zero : {x : Float} → Zero x → Zero (f2 ⊗ x)
unfolding mul
twice_zero z =
    rw (z.is, zero-mul (up z.exponent))
    (round_zero (unlike false z.sign) (1 * down z.exponent) (mul-pos (pow_pos 0) (down_pos z.exponent)))

pub min_zero : {x y : Float} → Zero x → Zero y → Zero (min_of x y)
unfolding min_of
min_zero {x} {y} z w = go (lt x y)
  where
    go : (t : Bool) → Zero (cond t x y)
    go true = z
    go false = w

pub lt_zero : {x y : Float} → Zero x → Zero y → lt x y ≡ false
unfolding lt
lt_zero z w =
    let e = z.exponent in
    let d = w.exponent in
    rw (z.is, w.is, zero-mul (up e), zero-mul (up d), zero-mul (down e), zero-mul (down d)) (go z.sign w.sign)
  where
    go : (s t : Bool) → below s 0 t 0 ≡ false
    go true true = refl
    go true false = refl
    go false true = refl
    go false false = refl
