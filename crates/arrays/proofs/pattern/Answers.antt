-- `arrays::pattern` meets its contract: a lawful single is a number, and its pattern stands for it again. Assumes nothing.
use mathlib.Core.Path.{refl}
use lib.Dec.{T}
use lib.Ieee.{binary32, fits}
use Rattle.clarity.proofs.Numbers.{threshold_again, gated_again}
use Rattle.arrays.proofs.pattern.Goals as goal

pub returns : goal.returns
returns c =
    let t = c.args.t in
    let f : T (fits binary32 t) = rw c.well_formed.0.1 tt in
    (refl, (threshold_again t f c.requires, gated_again t f c.requires))
