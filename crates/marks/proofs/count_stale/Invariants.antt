-- What the loop keeps.
use mathlib.Core.Path.{◌≡◌}
use mathlib.Core.List.{map}
use Prim.Native.Nat.{◌*◌, ◌-◌}
use lib.ListN.{take, drop}
use Rattle.machine.specs.Lists.{count}
use Rattle.machine.specs.Calls.{is_stale}
use Rattle.marks.proofs.count_stale.Given as goal

abbrev pub invariant-loop-run : goal.invariant-loop-run
invariant-loop-run l = l.c ≡ count (map is_stale (take (224 * l.run-index) (take (l.fn.hi - l.fn.lo) (drop l.fn.lo l.fn.marks))))
