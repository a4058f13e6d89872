-- Section 2: the root of a single is the single nearest its exact square root. Definitions only;
-- `Claims.antt` says what is proved of them.
use Rattle.std.specs.Prelude.{ℕ, zero, suc, ◌+◌, ◌-◌, ◌*◌, ◌/◌, ◌%◌, ◌^◌, Bool, true, false, cond, Ok, Err, Result, leb, ltb, Float}
use Rattle.std.specs.Float.{nan, inf, fin, binary32}
use Rattle.std.specs.Float.Ieee.{of_bits, to_bits}
use Rattle.picture.specs.Refusal.{none, operand}
use Rattle.single.specs.Single.{f0}
use Rattle.picture.specs.declared.refusal.Refusal.{Refusal}

-- The singles without sign bit, in their order, have the bit patterns 0, 1, 2, .. `single c` is the size of the one with the pattern c, in
-- units of 2 ^ -149, of which every finite single is a whole number: below 2 ^ 23 it is c itself, and from there on c's 23 low digits
-- after a leading one, scaled by c's exponent field.
unfoldable pub single : ℕ → ℕ
single c = cond (ltb c (2 ^ 23)) c ((2 ^ 23 + c % 2 ^ 23) * 2 ^ (c / 2 ^ 23 - 1))

-- The root of n units is no less than the middle of the single c and the one below it:
-- ((single (c - 1) + single c) / 2) ^ 2 ≤ n * 2 ^ 149, in whole numbers.
unfoldable pub reaches : ℕ → ℕ → Bool
unfolding single
reaches n c = let sum = single (c - 1) + single c in leb (sum * sum) (4 * (n * 2 ^ 149))

-- the largest pattern, from c to c + 2 ^ d - 1, that the root of n units reaches: found by halves
unfoldable pub largest : ℕ → ℕ → ℕ → ℕ
unfolding reaches
largest zero c n = c
largest (suc d) c n = largest d (cond (reaches n (c + 2 ^ d)) (c + 2 ^ d) c) n

-- the pattern of the single nearest the root of the single b, among the 2 ^ 31 without sign bit
unfoldable pub root_bits : ℕ → ℕ
unfolding single largest
root_bits b = largest 31 0 (single b)

-- the root of a single that has one
unfoldable pub sqrt_of : Float → Float
unfolding root_bits to_bits of_bits
sqrt_of x = of_bits binary32 (root_bits (to_bits binary32 x))

-- these have one: the finite, without sign bit
abbrev pub rooted : Float → Bool
rooted nan = false
rooted (inf s) = false
rooted (fin true m e) = false
rooted (fin false m e) = true

-- a refusal's number, 0 for none, and a root
pub record Rooted : Type 0 where
  pub refusal : ℕ
  pub root : Float

-- the root that an answer carries, and +0.0 where it is refused
abbrev pub carried : Result Float Refusal → Float
carried (Ok x) = x
carried (Err e) = f0

-- What is answered for any single: its root, or refusal 6 (sign bit set, infinite or not a number) with +0.0 beside it.
unfoldable pub root_answer : Float → Rooted
root_answer x = cond (rooted x) (record { refusal = none; root = sqrt_of x }) (record { refusal = operand; root = f0 })
