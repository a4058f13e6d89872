-- The screens by a number: how many words a block's side has. Definitions only.
use Rattle.std.specs.Prelude.{cond, ℕ, eqb}
use Rattle.machine.specs.Screen.{Screen}
use Rattle.three.specs.Three.{screen3}
use Rattle.nine.specs.Nine.{screen9}

-- the nine-times screen by 9, and the three-times screen by 3; what is no screen's number counts as 3, so that every number has a screen
abbrev pub screen_of : ℕ → Screen
screen_of scale = cond (eqb scale 9) screen9 screen3
