-- What the loop keeps, and its measure.
use mathlib.Core.Path.{◌≡◌}
use Prim.Native.Nat.{◌-◌, ◌≤◌}
use Rattle.machine.specs.Lists.{count}
use Rattle.marks.specs.Marks.{stale_in}
use Rattle.marks.proofs.stale_end.Given as goal

abbrev pub invariant-loop-d : goal.invariant-loop-d
invariant-loop-d l = (l.lo ≤ l.i) × (l.i ≤ l.hi) × (l.d ≤ l.n) × (count (stale_in l.lo l.i l.marks) ≡ l.d)

abbrev pub decreases-loop-d : goal.decreases-loop-d
decreases-loop-d l = l.hi - l.i
