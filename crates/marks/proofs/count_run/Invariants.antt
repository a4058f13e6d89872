-- What the loop keeps.
use mathlib.Core.Path.{◌≡◌}
use mathlib.Core.List.{map}
use Prim.Native.Nat.{◌≤◌}
use lib.ListN.{take}
use Rattle.machine.specs.Lists.{count}
use Rattle.machine.specs.Calls.{is_stale}
use Rattle.marks.proofs.count_run.Given as goal

abbrev pub invariant-loop-mark : goal.invariant-loop-mark
invariant-loop-mark l = (l.c ≤ l.mark-index) × (l.c ≡ count (map is_stale (take l.mark-index l.marks)))
