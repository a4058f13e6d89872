-- What the proofs of the root's steps share: the parts of a single, and the pattern that is put together of them. Assumes nothing.
use mathlib.Core.Path.{◌≡◌, sym, ap, ◌∙◌}
use mathlib.Core.Logic.{inl, inr}
use Prim.Native.Nat.{ℕ, suc, ◌+◌, ◌-◌, ◌*◌, ◌/◌, ◌%◌, ◌^◌, ◌≤◌, ◌<◌}
use native.Mathlib.Nat.{le_trans, le_of_eq, le_of_lt, lt_of_lt_of_le, lt_of_not-le, not-le_of_lt, eq-or-lt_of_le, add_assoc, add-mul, mul_assoc}
use native.Mathlib.Nat.{mul-le-mul, mul-le-mul_right, mul-lt-mul_of_pos_right, mul-pos, mod-eq_of_lt}
use native.Mathlib.Omega.{arith}
use lib.Dec.{lit≤}
use lib.Pow.{pow-add, pow_pos, pow_mono, shl_lt, shl_exact}
use lib.Count.{count_leading_zeros, leading_top}
use Rattle.integer_root.specs.Near.{Near}
use Rattle.integer_root.proofs.Certificate.{square_next}
use Rattle.single.specs.Root.{single, root_bits}
use Rattle.single.specs.Parts.{PartsOf}
use Rattle.single.proofs.Laws.{lt_or_ge, single_low, single_high, single_at, single_mono, middle², root², reaches_i, short_i, Ends, root_bits_is, sq_scale, sq_next}

-- ---- where n units are scaled to w * 4 ^ j, with w of 47 or 48 digits, r is the whole number nearest w's root: the root's pattern has the digits r and the field j + 1
module _ (n w j r : ℕ) (scaled : n * 2 ^ 149 ≡ w * (2 ^ j * 2 ^ j)) (big : 2 ^ 46 ≤ w) (near : Near w r) where
  four : root² n ≡ 4 * w * (2 ^ j * 2 ^ j)
  four = ap (λ (x : ℕ). 4 * x) scaled ∙ sym (mul_assoc 4 w (2 ^ j * 2 ^ j))

  here : single (j * 2 ^ 23 + r) ≡ r * 2 ^ j
  here = single_at j r near.lo (le_of_lt near.hi)

  -- a sum of a * 2 ^ j units, whose square is at most, or above, 4 * w
  within : (s a : ℕ) → s ≤ a * 2 ^ j → a * a ≤ 4 * w → s * s ≤ root² n
  within s a h k = rw four (le_trans (mul-le-mul h h) (le_trans (le_of_eq (sq_scale a (2 ^ j))) (mul-le-mul_right (2 ^ j * 2 ^ j) k)))

  beyond : (s a : ℕ) → s ≡ a * 2 ^ j → 4 * w < a * a → root² n < s * s
  beyond s a h k = rw (four, h, sq_scale a (2 ^ j)) (mul-lt-mul_of_pos_right k (mul-pos (pow_pos j) (pow_pos j)))

  high : root² n < middle² (j * 2 ^ 23 + r + 1 - 1) (j * 2 ^ 23 + r + 1)
  high =
      let back : j * 2 ^ 23 + r + 1 - 1 ≡ j * 2 ^ 23 + r = omega arith in
      let next : single (j * 2 ^ 23 + r + 1) ≡ (r + 1) * 2 ^ j = ap single (add_assoc (j * 2 ^ 23) r 1) ∙ single_at j (r + 1) (omega arith) (omega arith) in
      rw back (beyond (single (j * 2 ^ 23 + r) + single (j * 2 ^ 23 + r + 1)) (r + (r + 1)) (rw (here, next) (sym (add-mul r (r + 1) (2 ^ j)))) (omega (arith, sq_next r)))

  low : middle² (j * 2 ^ 23 + r - 1) (j * 2 ^ 23 + r) ≤ root² n
  low =
      let s = r - 1 in
      let e : s + 1 ≡ r = omega arith in
      elim (eq-or-lt_of_le near.lo) [
        | inl z ↦
            let m = single_mono (j * 2 ^ 23 + r - 1) (j * 2 ^ 23 + r) (omega arith) in
            let q : (r + r) * (r + r) ≡ 4 * 2 ^ 46 = ap (λ (x : ℕ). (x + x) * (x + x)) (sym z) in
            within (single (j * 2 ^ 23 + r - 1) + single (j * 2 ^ 23 + r)) (r + r) (omega (arith, here, add-mul r r (2 ^ j))) (omega arith)
        | inr l ↦
            let c : j * 2 ^ 23 + r - 1 ≡ j * 2 ^ 23 + s = omega arith in
            let m : single (j * 2 ^ 23 + r - 1) ≡ s * 2 ^ j = ap single c ∙ single_at j s (omega arith) (omega arith) in
            let o : (s + 1) * (s + 1) < w + (s + 1) = rw e near.over in
            within (single (j * 2 ^ 23 + r - 1) + single (j * 2 ^ 23 + r)) (s + (s + 1)) (rw e (omega (arith, here, add-mul s r (2 ^ j)))) (omega (arith, sq_next s, square_next s))
      ]

  certified : Ends n (j * 2 ^ 23 + r)
  certified = (reaches_i n (j * 2 ^ 23 + r) low, short_i n (j * 2 ^ 23 + r + 1) high)

-- ---- m * 2 ^ e is m, with one digit more for an odd e, times a power of four
scaled_is : (n m e : ℕ) → n * 2 ^ 126 ≡ m * 2 ^ e → n * 2 ^ 149 ≡ m * 2 ^ (23 + e % 2) * (2 ^ (e / 2) * 2 ^ (e / 2))
scaled_is n m e h =
    let parts : e + 23 ≡ 23 + e % 2 + (e / 2 + e / 2) = omega arith in
    let power : 2 ^ e * 2 ^ 23 ≡ 2 ^ (23 + e % 2) * (2 ^ (e / 2) * 2 ^ (e / 2)) =
    sym (pow-add 2 e 23) ∙ ap (λ (x : ℕ). 2 ^ x) parts ∙ pow-add 2 (23 + e % 2) (e / 2 + e / 2) ∙ ap (λ (x : ℕ). 2 ^ (23 + e % 2) * x) (pow-add 2 (e / 2) (e / 2)) in
    sym (mul_assoc n (2 ^ 126) (2 ^ 23)) ∙ rw h (mul_assoc m (2 ^ e) (2 ^ 23) ∙ rw power (sym (mul_assoc m (2 ^ (23 + e % 2)) (2 ^ (e / 2) * 2 ^ (e / 2)))))

-- the scaled number's bounds
pub scale_in : (m e : ℕ) → 2 ^ 23 ≤ m → m < 2 ^ 24 → (2 ^ 46 ≤ (m * 2 ^ (23 + e % 2)) % 2 ^ 64) × ((m * 2 ^ (23 + e % 2)) % 2 ^ 64 ≤ 2 ^ 48 - 2 ^ 24)
scale_in m e lo hi =
    elim (lt_or_ge (e % 2) 1) [
      | inl l ↦ let z : e % 2 ≡ 0 = omega arith in rw z (omega arith, omega arith)
      | inr l ↦ let z : e % 2 ≡ 1 = omega arith in rw z (omega arith, omega arith)
    ]

-- the pattern that `root_bits` makes is the root's
pub scaled_root : (m e r b : ℕ) → b < 0x7f80_0000 → PartsOf b m e → Near ((m * 2 ^ (23 + e % 2)) % 2 ^ 64) r → e / 2 * 2 ^ 23 + r ≡ root_bits b
scaled_root m e r b h scale near =
    let exact : (m * 2 ^ (23 + e % 2)) % 2 ^ 64 ≡ m * 2 ^ (23 + e % 2) = shl_exact 24 (23 + e % 2) 64 scale.hi (omega arith) in
    sym (root_bits_is b (e / 2 * 2 ^ 23 + r) h
    (certified (single b) (m * 2 ^ (23 + e % 2)) (e / 2) r (scaled_is (single b) m e scale.is) (rw exact at (scale_in m e scale.lo scale.hi).0) (rw exact at near)))

-- ---- the parts of a subnormal single: its digits, moved up until the leading one stands at 2 ^ 23
abbrev gap : ℕ → ℕ
gap b = count_leading_zeros 32 b - 8

pub low_shift : (b : ℕ) → 0 < b → b < 2 ^ 23 → (8 ≤ count_leading_zeros 32 b) × (gap b ≤ 23) × (2 ^ 23 ≤ b * 2 ^ gap b) × (b * 2 ^ gap b < 2 ^ 24)
low_shift b p h =
    let l = leading_top 32 b p (omega arith) in
    let j = l.0 in
    let k : j < 23 = lt_of_not-le (λ (g : 23 ≤ j). not-le_of_lt h (le_trans (pow_mono g) l.2)) in
    let e : gap b ≡ 23 - j = omega (arith, l.1) in
    let up : 23 ≡ j + (23 - j) = omega arith in
    let over : suc j + (23 - j) ≡ 24 = omega arith in (
      omega (arith, l.1),
      omega (arith, l.1),
      rw e (le_trans (le_of_eq (ap (λ (x : ℕ). 2 ^ x) up ∙ pow-add 2 j (23 - j))) (mul-le-mul_right (2 ^ (23 - j)) l.2)),
      rw e (lt_of_lt_of_le (shl_lt (suc j) (23 - j) l.3) (le_of_eq (ap (λ (x : ℕ). 2 ^ x) over))),
    )

pub low_parts : (b : ℕ) → 0 < b → b < 2 ^ 23 → PartsOf b (b * 2 ^ gap b % 2 ^ 32) (126 - gap b)
low_parts b p h =
    let s = low_shift b p h in
    let exact : b * 2 ^ gap b % 2 ^ 32 ≡ b * 2 ^ gap b = mod-eq_of_lt (lt_of_lt_of_le s.3 (lit≤ tt)) in
    let parts : 126 ≡ gap b + (126 - gap b) = omega arith in
    rw exact (record {
      lo = s.2;
      hi = s.3;
      few = omega arith;
      is = rw (single_low b h) (ap (λ (x : ℕ). b * 2 ^ x) parts ∙ ap (λ (x : ℕ). b * x) (pow-add 2 (gap b) (126 - gap b)) ∙ sym (mul_assoc b (2 ^ gap b) (2 ^ (126 - gap b))));
    })

-- and of any other
pub high_parts : (b : ℕ) → 2 ^ 23 ≤ b → b < 0x7f80_0000 → PartsOf b (2 ^ 23 + b % 2 ^ 23) (b / 2 ^ 23 + 125)
high_parts b h k =
    let parts : b / 2 ^ 23 - 1 + 126 ≡ b / 2 ^ 23 + 125 = omega arith in
    record {
      lo = omega arith;
      hi = omega arith;
      few = omega arith;
      is =
          ap (λ (x : ℕ). x * 2 ^ 126) (single_high b h)
          ∙ mul_assoc (2 ^ 23 + b % 2 ^ 23) (2 ^ (b / 2 ^ 23 - 1)) (2 ^ 126)
          ∙ ap (λ (x : ℕ). (2 ^ 23 + b % 2 ^ 23) * x) (sym (pow-add 2 (b / 2 ^ 23 - 1) 126) ∙ ap (λ (x : ℕ). 2 ^ x) parts);
    }
