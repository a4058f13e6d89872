-- What the loop keeps, and its measure.
use Prim.Native.Nat.{◌-◌, ◌≤◌}
use Rattle.marks.specs.Marks.{Inside}
use Rattle.stale_runs.specs.Frames.{SweptOf}
use Rattle.bands.proofs.part.draw_part.Given as goal

abbrev pub invariant-loop-x : goal.invariant-loop-x
invariant-loop-x l =
    (l.a.x ≤ l.x) × ((l.x ≤ l.a.end)
    × SweptOf l.frame (Inside l.frame.picture.w l.a.x l.x l.a.y l.a.bottom) l.initial.output l.initial.marks l.output l.marks)

abbrev pub decreases-loop-x : goal.decreases-loop-x
decreases-loop-x l = l.a.end - l.x
