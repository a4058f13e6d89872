-- What the loop keeps.
use Rattle.std.proofs.Common.{◌≡◌, ℕ, ◌*◌}
use Rattle.picture.specs.Fill.{Filled}
use Rattle.grid.proofs.Cells.{lines}
use Rattle.grid.proofs.pass.fill_rect.Given as goal

-- the first k rows stand at the front, and the pass makes what it made
abbrev pub invariant-loop-k : goal.invariant-loop-k
invariant-loop-k g l = record {
  made : Filled 0 (l.g.cols * 4) l.k (lines g.P.Made.Record.elements l.g (g.P.Pass.field l.initial.pass)) l.initial.s l.s;
  field_kept : g.P.Pass.field l.pass ≡ g.P.Pass.field l.initial.pass;
  reach_kept : (x y : ℕ) → g.P.Pass.reaches l.initial.pass x y → g.P.Pass.reaches l.pass x y;
}
