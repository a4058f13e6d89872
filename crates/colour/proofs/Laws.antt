-- What holds of N for all words: its largest value, that it is symmetric, and where it is 0. Assumes nothing.
use mathlib.Core.Path.{◌≡◌, refl, sym, ap, ◌∙◌}
use mathlib.Core.Logic.{◌↔◌}
use Prim.Native.Nat.{ℕ, zero, suc, ◌+◌, ◌-◌, ◌*◌, ◌/◌, ◌%◌, ◌^◌, ◌≤◌}
use native.Mathlib.Nat.{mul-le-mul, mul-le-mul_left}
use native.Mathlib.Omega.{arith}
use Rattle.channels.specs.Channels.{red_of, green_of, blue_of}
use Rattle.colour.specs.Nearness.{gap, squared, N, nearness_of}
use Rattle.colour.specs.Weighed.{weighed_of}
use Rattle.channels.proofs.Channels.{byte, agree, apart}

-- ---- the gap
pub gap_small : (a b : ℕ) → a ≤ 255 → b ≤ 255 → gap a b ≤ 255
unfolding gap
gap_small a b A B = omega arith

pub gap_turned : (a b : ℕ) → gap a b ≡ gap b a
unfolding gap
gap_turned a b = omega arith

pub gap_same : (a : ℕ) → gap a a ≡ 0
unfolding gap
gap_same a = omega arith

pub gap_none : (a b : ℕ) → gap a b ≡ 0 → a ≡ b
unfolding gap
gap_none a b e = omega arith

-- ---- squares
pub square_small : (n : ℕ) → n ≤ 255 → squared n ≤ 65025
square_small n h = mul-le-mul h h

pub times_small : (k n : ℕ) → n ≤ 255 → k * squared n ≤ k * 65025
times_small k n h = mul-le-mul_left k (square_small n h)

-- a square is at least its root, so a product of it and a number from 1 on is 0 only where the root is
square_from : (n : ℕ) → n ≤ squared n
square_from zero = omega arith
square_from (suc n) = omega arith

root_none : (k n : ℕ) → 1 ≤ k → k * squared n ≡ 0 → n ≡ 0
root_none k n h e = let l : 1 * n ≤ k * squared n = mul-le-mul h (square_from n) in omega arith

-- ---- N by the gaps
pub weighed_is : (R G B R' G' B' : ℕ) → N R G B R' G' B' ≡ weighed_of R R' (gap G G') (gap B B')
unfolding N weighed_of
weighed_is R G B R' G' B' = refl

pub weighed_small : (r s g b : ℕ) → r ≤ 255 → s ≤ 255 → g ≤ 255 → b ≤ 255 → weighed_of r s g b ≤ 298464750
unfolding weighed_of
weighed_small r s g b hr hs hg hb =
    omega (arith, times_small (1020 + r + s) (gap r s) (gap_small r s hr hs), times_small 2040 g hg, times_small (1530 - r - s) b hb)

module _ (p q : ℕ) where
  pub nearness_small : nearness_of p q ≤ 298464750
  unfolding nearness_of N weighed_of
  nearness_small = weighed_small (red_of p) (red_of q) (gap (green_of p) (green_of q)) (gap (blue_of p) (blue_of q)) (byte (p / 2 ^ 16)) (byte (q / 2 ^ 16))
      (gap_small _ _ (byte (p / 2 ^ 8)) (byte (q / 2 ^ 8))) (gap_small _ _ (byte p) (byte q))

  pub nearness_symmetric : nearness_of p q ≡ nearness_of q p
  unfolding nearness_of N
  nearness_symmetric =
      let r = gap_turned (red_of p) (red_of q) in
      let g = gap_turned (green_of p) (green_of q) in
      let b = gap_turned (blue_of p) (blue_of q) in
      let up : 1020 + red_of p + red_of q ≡ 1020 + red_of q + red_of p = omega arith in
      let down : 1530 - red_of p - red_of q ≡ 1530 - red_of q - red_of p = omega arith in
      cc

  -- N is 0 exactly where the low 24 bits agree
  zero_only_if : nearness_of p q ≡ 0 → p % 2 ^ 24 ≡ q % 2 ^ 24
  unfolding nearness_of N
  zero_only_if e =
      apart p q
      (gap_none (red_of p) (red_of q) (root_none (1020 + red_of p + red_of q) (gap (red_of p) (red_of q)) (omega arith) (omega arith)))
      (gap_none (green_of p) (green_of q) (root_none 2040 (gap (green_of p) (green_of q)) (omega arith) (omega arith)))
      (gap_none (blue_of p) (blue_of q)
      (root_none (1530 - red_of p - red_of q) (gap (blue_of p) (blue_of q)) (omega (arith, byte (p / 2 ^ 16), byte (q / 2 ^ 16))) (omega arith)))

  none : (k n : ℕ) → n ≡ 0 → k * squared n ≡ 0
  none k n e = rw e (omega arith)

  zero_if : p % 2 ^ 24 ≡ q % 2 ^ 24 → nearness_of p q ≡ 0
  unfolding nearness_of N
  zero_if e =
      let s = agree p q e in
      let r : gap (red_of p) (red_of q) ≡ 0 = ap (gap (red_of p)) (sym s.0) ∙ gap_same (red_of p) in
      let g : gap (green_of p) (green_of q) ≡ 0 = ap (gap (green_of p)) (sym s.1) ∙ gap_same (green_of p) in
      let b : gap (blue_of p) (blue_of q) ≡ 0 = ap (gap (blue_of p)) (sym s.2) ∙ gap_same (blue_of p) in
      omega (arith, none (1020 + red_of p + red_of q) _ r, none 2040 _ g, none (1530 - red_of p - red_of q) _ b)

  pub nearness_zero : (nearness_of p q ≡ 0) ↔ (p % 2 ^ 24 ≡ q % 2 ^ 24)
  nearness_zero = (zero_only_if, zero_if)

-- black and white have the largest N
pub nearness_largest : nearness_of 0x000000 0xffffff ≡ 298464750
unfolding nearness_of N gap
nearness_largest = refl
