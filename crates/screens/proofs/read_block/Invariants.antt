-- What the loop keeps, and its measure.
use mathlib.Core.Path.{◌≡◌}
use mathlib.Core.List.{◌++◌}
use Prim.Native.Nat.{◌-◌, ◌≤◌}
use lib.ListN.{length, get_or, drop}
use Rattle.machine.specs.Lists.{table}
use Rattle.machine.proofs.Places.{spot}
use Rattle.screens.proofs.read_block.Given as goal

abbrev pub invariant-loop-k : goal.invariant-loop-k
invariant-loop-k l = (l.k ≤ length l.initial.words) × ((length l.words ≡ length l.initial.words) × (l.words ≡ table l.k (λ j. get_or l.output (spot l.s l.w l.bx l.by j) 0) ++ drop l.k l.initial.words))

abbrev pub decreases-loop-k : goal.decreases-loop-k
decreases-loop-k l = length l.initial.words - l.k
