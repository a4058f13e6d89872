-- What the loop keeps.
use Prim.Native.Nat.{◌+◌}
use Rattle.marks.specs.Marks.{Inside}
use Rattle.stale_runs.specs.Frames.{SweptOf}
use Rattle.stale_runs.proofs.draw_rows.Given as goal

abbrev pub invariant-loop-j : goal.invariant-loop-j
invariant-loop-j l =
    SweptOf l.frame (Inside l.frame.picture.w l.tile.grid.x0 (l.tile.grid.x0 + l.tile.grid.cols) l.tile.grid.y0 (l.tile.grid.y0 + l.j))
    l.initial.output l.initial.marks l.output l.marks
