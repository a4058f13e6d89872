-- How many blocks a changing paint names in a picture of 32 by 32. Assumes nothing.
use Rattle.std.specs.Prelude.{refl}
use Rattle.machine.specs.Claims.{Named}
use Rattle.three.specs.Three.{screen3}

pub crosses : Named screen3 120 40 33
crosses = record { at_10_10 = refl; at_0_0 = refl; at_31_31 = refl }
