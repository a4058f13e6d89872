-- What the loop keeps, and its measure.
use Prim.Native.Nat.{◌-◌, ◌*◌, ◌≤◌}
use Rattle.stale_runs.specs.Frames.{FirstOf}
use Rattle.draw.proofs.draw_first.Given as goal

abbrev pub invariant-loop-y : goal.invariant-loop-y
invariant-loop-y l = (l.y ≤ l.h) × FirstOf l.frame 0 (l.y * l.frame.picture.w) l.n l.initial.output l.initial.marks l.output l.marks l.stale

abbrev pub decreases-loop-y : goal.decreases-loop-y
decreases-loop-y l = l.h - l.y
