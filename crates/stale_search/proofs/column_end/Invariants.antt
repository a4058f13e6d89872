-- What the loop keeps.
use Prim.Native.Nat.{◌≤◌, ◌<◌}
use Rattle.marks.specs.Marks.{Clear}
use Rattle.stale_search.proofs.column_end.Given as goal

abbrev pub invariant-loop-row : goal.invariant-loop-row
invariant-loop-row l = (l.a.x < l.c) × (l.c ≤ l.a.end) × Clear l.w l.c l.a.end l.a.y l.row l.marks
