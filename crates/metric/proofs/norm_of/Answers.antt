-- `metric::norm_of` meets its contract: 2 ^ 23 + n, by its pattern, less 2 ^ 23 is n, shown by computing it for each n. Assumes nothing.
use mathlib.Core.Path.{◌≡◌, sym, ap, ◌∙◌}
use Prim.Native.Nat.{ℕ, ◌+◌, ◌≤◌}
use native.Mathlib.Omega.{arith}
use mathlib.Core.Bool.{Bool, false, not, ◌&&◌}
use lib.IntN.{pos}
use lib.Dec.{T, eqb, eqb→eq}
use lib.Ieee.{Float, fin, binary32, sub, of_int, of_bits, to_bits, nan_bits}
use lib.Ieee.Bits.{of_bits-to_bits}
use lib.Ieee.Fits.{and_l, and_r, sub-fits, of_int-fits}
use Rattle.single.specs.Single.{◌⊖◌}
use Rattle.metric.specs.Distance.{norm}
use Rattle.metric.proofs.Channels.{every, at}
use Rattle.metric.proofs.norm_of.Goals as goal

abbrev taken : ℕ → Float
taken n = of_bits binary32 (0x4b00_0000 + n) ⊖ fin false 1 (pos 23)

abbrev same : ℕ → Bool
same n = not (nan_bits binary32 (0x4b00_0000 + n)) && eqb (to_bits binary32 (taken n)) (to_bits binary32 (of_int binary32 (pos n)))

all_same : T (every same 256)
unfolding nan_bits to_bits of_bits sub of_int
all_same = tt

held : (n : ℕ) → n ≤ 255 → T (same n)
held n h = at same 256 all_same n (omega arith)

taken_is : (n : ℕ) → n ≤ 255 → taken n ≡ of_int binary32 (pos n)
taken_is n h =
    sym (of_bits-to_bits binary32 (taken n) (sub-fits binary32 _ _))
    ∙ ap (of_bits binary32) (eqb→eq (to_bits binary32 (taken n)) (to_bits binary32 (of_int binary32 (pos n))) (and_r (not (nan_bits binary32 (0x4b00_0000 + n))) _ (held n h)))
    ∙ of_bits-to_bits binary32 (of_int binary32 (pos n)) (of_int-fits binary32 (pos n))

pub float_from_bits-result : goal.float_from_bits-result
float_from_bits-result c = and_l (not (nan_bits binary32 (0x4b00_0000 + c.args.n))) _ (held c.args.n (omega arith))

pub returns : goal.returns
unfolding norm of_bits
returns c = rw (taken_is c.args.n (omega arith))
