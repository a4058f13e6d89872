-- `single::sqrt` meets its contract: `proofs/Floats.antt` has each fact. Assumes nothing.
use mathlib.Core.Path.{sym, ap, ◌∙◌, subst}
use Prim.Native.Nat.{ℕ}
use mathlib.Core.Bool.{not}
use lib.Dec.{T}
use lib.Ieee.{binary32, fits, of_bits, to_bits, nan_bits}
use Rattle.single.proofs.Floats.{no_nan, rooted_bits, root_no_nan, sqrt_of_is}
use Rattle.single.proofs.sqrt.Goals as goal

-- what owning an `f32` tells: the format holds it
held : (c : goal.Start) → T (fits binary32 c.args.x)
held c = subst T (sym c.well_formed.0.1) tt

pub float_to_bits-x : goal.float_to_bits-x
float_to_bits-x c = no_nan c.args.x c.requires

pub root_bits-requires : goal.root_bits-requires
root_bits-requires c =
    let held : T (fits binary32 c.args.x) = subst T (sym c.well_formed.0.1) tt in
    rooted_bits c.args.x held c.requires

pub float_from_bits-result : goal.float_from_bits-result
float_from_bits-result c =
    let held : T (fits binary32 c.args.x) = subst T (sym c.well_formed.0.1) tt in
    subst (λ (n : ℕ). T (not (nan_bits binary32 n))) (sym c.root_bits.ensures) (root_no_nan (to_bits binary32 c.args.x) (rooted_bits c.args.x held c.requires))

pub returns : goal.returns
returns c = ap (of_bits binary32) c.root_bits.ensures ∙ sym (sqrt_of_is c.args.x)
