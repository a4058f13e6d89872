-- What the loop keeps, and its measure.
use mathlib.Core.Path.{◌≡◌}
use Prim.Native.Nat.{◌+◌, ◌-◌, ◌≤◌}
use lib.ListN.{length}
use Rattle.marks.specs.Marks.{Inside}
use Rattle.stale_runs.specs.Frames.{SweptOf}
use Rattle.stale_runs.proofs.draw_stale.Given as goal

abbrev pub invariant-loop-i : goal.invariant-loop-i
invariant-loop-i l =
    (l.i ≤ l.t.cols) × (length l.marks ≡ length l.initial.marks)
    × SweptOf l.frame (Inside l.frame.picture.w l.t.x0 (l.t.x0 + l.i) (l.t.y0 + l.j) (l.t.y0 + l.j + 1))
    l.initial.output l.initial.marks l.output l.marks

abbrev pub decreases-loop-i : goal.decreases-loop-i
decreases-loop-i l = l.t.cols - l.i
