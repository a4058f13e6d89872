-- How many blocks a changing paint names in a picture of 32 by 32. Assumes nothing.
use Rattle.std.specs.Prelude.{refl}
use Rattle.machine.specs.Claims.{Named}
use Rattle.nine.specs.Nine.{screen9}

pub boxes : Named screen9 272 81 72
boxes = record { at_10_10 = refl; at_0_0 = refl; at_31_31 = refl }
