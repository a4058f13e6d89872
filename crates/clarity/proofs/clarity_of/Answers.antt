-- `clarity::clarity_of` meets its contract. A pattern up to that of 1.0 is no NaN's. Assumes nothing.
use mathlib.Core.Path.{◌≡◌}
use Prim.Native.Nat.{ℕ, ◌≤◌}
use native.Mathlib.Omega.{arith}
use mathlib.Core.Bool.{Bool, true, false, not, ◌||◌, true≢false}
use lib.Dec.{T, eqb, ltb}
use lib.Ieee.{binary32, of_bits, nan_bits}
use lib.Ieee.Bits.{nan_bits_is}
use borrow.Author.Tests.{ltb-false}
use Rattle.single.proofs.Floats.{no_nan, rooted_of_bits}
use Rattle.clarity.proofs.clarity_of.Goals as goal

number : (b : ℕ) → b ≤ 0x3f80_0000 → T (not (nan_bits binary32 b))
number b h = rw (nan_bits_is binary32 b) (no_nan (of_bits binary32 b) (rooted_of_bits b (omega arith)))

above : (z h : Bool) → (z || h) ≡ false → h ≡ false
above true h e = absurd (true≢false e)
above false h e = e

pub float_from_bits-bits : goal.float_from_bits-bits
float_from_bits-bits c =
    let b = c.args.bits in
    number b (ltb-false 0x3f80_0000 b (above (eqb b 0) (ltb 0x3f80_0000 b) c.if-bits.false))
