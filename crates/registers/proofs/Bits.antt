-- What the definitions of flags and line say bit by bit. Assumes nothing.
use mathlib.Core.Path.{◌≡◌, refl, sym, ap, ap₂, ◌∙◌}
use mathlib.Core.Bool.{Bool, true, false, cond}
use Prim.Native.Nat.{ℕ, zero, suc, ◌+◌, ◌-◌, ◌*◌, ◌/◌, ◌%◌, ◌^◌, ◌<◌, min, max}
use native.Mathlib.Omega.{arith}
use lib.Bits.{bit_and, bit_or, and_step, and_shr, and_mod, and_zero_l, and_le_l, or_step, or_shr, or_zero_r}
use lib.Dec.{eqb}
use borrow.Author.Tests.{eqb-true}
use Rattle.registers.specs.Registers.{cleared, raised, line_of}
use Rattle.registers.specs.Claims.{bit, RegisterLaws}

-- of two single bits
and_bits : (x y : ℕ) → x < 2 → y < 2 → bit_and x y ≡ min x y
and_bits x y l m =
    let a : x / 2 ≡ 0 = omega arith in
    let b : x % 2 ≡ x = omega arith in
    let c : y % 2 ≡ y = omega arith in
    and_step x y ∙ ap₂ (λ (p q : ℕ). p * 2 + q) (ap (λ (n : ℕ). bit_and n (y / 2)) a ∙ and_zero_l (y / 2)) (ap₂ min b c) ∙ omega arith

-- of any two numbers
and_bit : (f m k : ℕ) → bit k (bit_and f m) ≡ min (bit k f) (bit k m)
and_bit f m k =
    ap (λ (n : ℕ). n % 2) (and_shr f m k) ∙ and_mod (f / 2 ^ k) (m / 2 ^ k) 1
    ∙ and_bits (bit k f) (bit k m) (omega arith) (omega arith)

-- what holds of the eight places of a byte
below_8 : (P : ℕ → Type 0) → P 0 → P 1 → P 2 → P 3 → P 4 → P 5 → P 6 → P 7 → (k : ℕ) → k < 8 → P k
below_8 P a b c d e f g h zero l = a
below_8 P a b c d e f g h (suc zero) l = b
below_8 P a b c d e f g h (suc (suc zero)) l = c
below_8 P a b c d e f g h (suc (suc (suc zero))) l = d
below_8 P a b c d e f g h (suc (suc (suc (suc zero)))) l = e
below_8 P a b c d e f g h (suc (suc (suc (suc (suc zero))))) l = f
below_8 P a b c d e f g h (suc (suc (suc (suc (suc (suc zero)))))) l = g
below_8 P a b c d e f g h (suc (suc (suc (suc (suc (suc (suc zero))))))) l = h
below_8 P a b c d e f g h (suc (suc (suc (suc (suc (suc (suc (suc k)))))))) l = absurd (omega arith)

-- the bit of 255 - v is the other one than v's
other_bit : (v : ℕ) → v < 256 → (k : ℕ) → k < 8 → bit k (255 - v) ≡ 1 - bit k v
other_bit v l =
    below_8 (λ k. bit k (255 - v) ≡ 1 - bit k v) (omega arith) (omega arith) (omega arith) (omega arith) (omega arith) (omega arith) (omega arith)
    (omega arith)

cleared_bit : (f v : ℕ) → v < 256 → (k : ℕ) → k < 8 → bit k (cleared f v) ≡ min (bit k f) (1 - bit k v)
cleared_bit f v l k m = and_bit f (255 - v) k ∙ ap (min (bit k f)) (other_bit v l k m)

-- the number 1 has no bit but bit 0
no_other : (k : ℕ) → k < 8 → 0 < k → 1 / 2 ^ k ≡ 0
no_other =
    below_8 (λ k. 0 < k → 1 / 2 ^ k ≡ 0) (λ l. absurd (omega arith)) (λ l. refl) (λ l. refl) (λ l. refl) (λ l. refl) (λ l. refl) (λ l. refl) (λ l. refl)

raised_bit : (f : ℕ) → (bit 0 (raised f) ≡ 1) × ((k : ℕ) → 0 < k → k < 8 → bit k (raised f) ≡ bit k f)
raised_bit f =
    let e : bit_or f 1 ≡ f / 2 * 2 + max (f % 2) 1 = or_step f 1 ∙ ap (λ (n : ℕ). n * 2 + max (f % 2) 1) (or_zero_r (f / 2)) in (
      omega (arith, e),
      λ k l m. ap (λ (n : ℕ). n % 2) (or_shr f 1 k ∙ ap (bit_or (f / 2 ^ k)) (no_other k m l) ∙ or_zero_r (f / 2 ^ k)),
    )

-- a byte of which every bit is 0
no_bits : (n : ℕ) → n < 256 → ((k : ℕ) → k < 8 → bit k n ≡ 0) → n ≡ 0
no_bits n l z =
    let a : n / 128 ≡ 0 = one_more 128 (z 7 (omega arith)) (omega arith) in
    let b : n / 64 ≡ 0 = one_more 64 (z 6 (omega arith)) (omega (arith, a)) in
    let c : n / 32 ≡ 0 = one_more 32 (z 5 (omega arith)) (omega (arith, b)) in
    let d : n / 16 ≡ 0 = one_more 16 (z 4 (omega arith)) (omega (arith, c)) in
    let e : n / 8 ≡ 0 = one_more 8 (z 3 (omega arith)) (omega (arith, d)) in
    let f : n / 4 ≡ 0 = one_more 4 (z 2 (omega arith)) (omega (arith, e)) in
    let g : n / 2 ≡ 0 = one_more 2 (z 1 (omega arith)) (omega (arith, f)) in
    let h : n / 1 ≡ 0 = one_more 1 (z 0 (omega arith)) (omega (arith, g)) in
    omega (arith, h)
  where
    one_more : (p : ℕ) → n / p % 2 ≡ 0 → n / p < 2 → n / p ≡ 0
    one_more p x y = omega (arith, x, y)

zero_bit : (k : ℕ) → k < 8 → bit k 0 ≡ 0
zero_bit = below_8 (λ k. bit k 0 ≡ 0) refl refl refl refl refl refl refl refl

line_shared : (f m k : ℕ) → k < 8 → bit k f ≡ 1 → bit k m ≡ 1 → line_of f m ≡ 1
line_shared f m k l p q = by_test (eqb (bit_and f m) 0) refl
  where
    both : bit k (bit_and f m) ≡ 1
    both = and_bit f m k ∙ ap₂ min p q

    by_test : (t : Bool) → eqb (bit_and f m) 0 ≡ t → cond {A = ℕ} t 0 1 ≡ 1
    by_test true e = sym (zero_bit k l) ∙ ap (bit k) (sym (eqb-true (bit_and f m) 0 e)) ∙ both
    by_test false e = refl

line_apart : (f m : ℕ) → f < 256 → m < 256 → ((k : ℕ) → k < 8 → min (bit k f) (bit k m) ≡ 0) → line_of f m ≡ 0
line_apart f m i j apart =
    rw (no_bits (bit_and f m) (omega (arith, and_le_l f m)) (λ k l. and_bit f m k ∙ apart k l))

pub register_laws : RegisterLaws
register_laws = record { cleared_bit = cleared_bit; raised_bit = raised_bit; line_shared = line_shared; line_apart = line_apart }
