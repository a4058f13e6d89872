-- What the loop keeps.
use Prim.Native.Nat.{◌≤◌}
use Rattle.marks.specs.Marks.{Clear}
use Rattle.stale_search.proofs.first_column.Given as goal

abbrev pub invariant-loop-j : goal.invariant-loop-j
invariant-loop-j l = (l.a.x ≤ l.c) × (l.c ≤ l.a.end) × Clear l.w l.a.x l.c l.a.y l.j l.marks
