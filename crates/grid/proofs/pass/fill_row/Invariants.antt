-- What the loop keeps.
use Rattle.std.proofs.Common.{◌≡◌, ℕ}
use Rattle.picture.specs.Fill.{Filled}
use Rattle.grid.proofs.Cells.{cells}
use Rattle.grid.proofs.pass.fill_row.Given as goal

-- the row's first k records stand from `at` on, and the pass makes what it made
abbrev pub invariant-loop-k : goal.invariant-loop-k
invariant-loop-k g l = record {
  made : Filled l.at 4 l.k (cells g.P.Made.Record.elements l.g (g.P.Pass.field l.initial.pass) l.y) l.initial.s l.s;
  field_kept : g.P.Pass.field l.pass ≡ g.P.Pass.field l.initial.pass;
  reach_kept : (x y : ℕ) → g.P.Pass.reaches l.initial.pass x y → g.P.Pass.reaches l.pass x y;
}
