-- `grid::pass::fill_row` meets its contract: each turn stores one record more. Assumes nothing.
use Rattle.std.proofs.Common.{refl, ap, ◌∙◌, arith}
use Rattle.picture.specs.Fill.{fill_none, fill_more, fill_done}
use Rattle.grid.specs.Grid.{row_of}
use Rattle.grid.proofs.Cells.{cells}
use Rattle.grid.proofs.pass.fill_row.Goals as goal

pub loop-k-init : goal.loop-k-init
loop-k-init g c =
    let a = c.args in
    record {
      made = fill_none a.at 4 (cells g.P.Made.Record.elements a.g (g.P.Pass.field a.pass.now) a.y) a.s.now (omega (arith, c.requires.room));
      field_kept = refl;
      reach_kept = λ x y h. h;
    }

pub loop-k-preserved : goal.loop-k-preserved
loop-k-preserved g c =
    let a = c.args in
    let s = c.loop-k in
    let made = c.record_at.ensures in
    record {
      made = fill_more a.at 4 s.k (cells g.P.Made.Record.elements a.g (g.P.Pass.field a.pass.now) a.y) a.s.now s.s _ _ _
          (λ j. g.met.P.Made.Record.four _) (omega (arith, c.requires.room)) s.invariant.made (omega arith)
          (ap g.P.Made.Record.elements (rw s.invariant.field_kept at made.made)) c.store.ensures;
      field_kept = made.field_kept ∙ s.invariant.field_kept;
      reach_kept = λ x y h. made.reach_kept x y (s.invariant.reach_kept x y h);
    }

pub returns-clause-made : goal.returns-clause-made
unfolding row_of
returns-clause-made g c =
    let a = c.args in
    fill_done a.at 4 _ a.g.cols (cells g.P.Made.Record.elements a.g (g.P.Pass.field a.pass.now) a.y) a.s.now _ c.loop-k.invariant.made (omega arith)
