-- The certificate's bounds: a whole number whose square lies near w is the one nearest w's root. Assumes nothing.
use mathlib.Core.Path.{◌≡◌}
use Prim.Native.Nat.{ℕ, ◌+◌, ◌-◌, ◌*◌, ◌^◌, ◌≤◌, ◌<◌}
use native.Mathlib.Nat.{le_of_lt, lt_of_le_of_lt, add-mul, mul-add, mul-one, one-mul, mul-le-mul, mul-le-mul_left}
use native.Mathlib.Omega.{arith}
use lib.Dec.{T, ltb, ltb→lt}
use mir.Syntax.{w64}
use mir.Val.{Fits}
use Rattle.integer_root.specs.Near.{Near}

-- the certificate bounds r
pub near_range : (w r : ℕ) → 2 ^ 46 ≤ w → w ≤ 2 ^ 48 - 2 ^ 24 → r * r < w + r → w ≤ r * r + r → Near w r
near_range w r a b over less =
    let low : r < 2 ^ 23 → ⊥ = λ l. omega (arith, mul-le-mul_left r (le_of_lt l)) in
    let high : 2 ^ 24 ≤ r → ⊥ = λ l. omega (arith, mul-le-mul_left r l) in
    record { lo = omega (arith, low); hi = omega (arith, high); over = over; less = less }

pub square_next : (q : ℕ) → (q + 1) * (q + 1) ≡ q * q + 2 * q + 1
square_next q = simp (mul-add, add-mul, mul-one, one-mul) (omega arith)

-- a product fits where its bounds' product does
pub product_fits : (a b m n : ℕ) → a ≤ m → b ≤ n → T (ltb (m * n) (2 ^ 64)) → Fits w64 (a * b)
product_fits a b m n h k t = record { fits = lt_of_le_of_lt (mul-le-mul h k) (ltb→lt (m * n) (2 ^ 64) t) }
