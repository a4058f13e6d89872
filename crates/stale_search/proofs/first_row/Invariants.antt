-- What the loop keeps.
use Rattle.marks.specs.Marks.{Clear}
use Rattle.stale_search.proofs.first_row.Given as goal

abbrev pub invariant-loop-r : goal.invariant-loop-r
invariant-loop-r l = Clear l.w l.a.x l.a.end l.a.y l.r l.marks
