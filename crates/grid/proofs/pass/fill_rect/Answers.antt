-- `grid::pass::fill_rect` meets its contract: each turn stores one row more. Assumes nothing.
use Rattle.std.proofs.Common.{◌+◌, ◌*◌, ◌≤◌, refl, ap, ◌∙◌, arith}
use Rattle.picture.specs.Fill.{fill_none, fill_more, fill_done, chunk}
use Rattle.grid.specs.Grid.{row_of, rect_of}
use Rattle.grid.specs.Kept.{row_long}
use Rattle.grid.proofs.Cells.{lines}
use Rattle.grid.proofs.pass.fill_rect.Goals as goal

pub loop-k-init : goal.loop-k-init
loop-k-init g c =
    let a = c.args in
    record {
      made = fill_none 0 (a.g.cols * 4) (lines g.P.Made.Record.elements a.g (g.P.Pass.field a.pass.now)) a.s.now (omega arith);
      field_kept = refl;
      reach_kept = λ x y h. h;
    }

pub fill_row-requires : goal.fill_row-requires
fill_row-requires g c =
    let a = c.args in
    let s = c.loop-k in
    let room : s.k * (a.g.cols * 4) + a.g.cols * 4 ≤ a.g.rows * (a.g.cols * 4) = chunk s.k a.g.rows (a.g.cols * 4) c.loop-k-test.true in
    record {
      reached = λ i hi.
          s.invariant.reach_kept (a.g.x0 + i) (a.g.y0 + s.k)
          (c.requires.reached (a.g.x0 + i) (a.g.y0 + s.k)
          (record { left = omega arith; right = omega arith; above = omega arith; below = omega (arith, c.loop-k-test.true) }));
      room = (c.requires.room.0, omega (arith, room, c.requires.room, s.auto));
    }

pub loop-k-preserved : goal.loop-k-preserved
loop-k-preserved g c =
    let a = c.args in
    let s = c.loop-k in
    let made = c.fill_row.ensures in
    let room : s.k * (a.g.cols * 4) + a.g.cols * 4 ≤ a.g.rows * (a.g.cols * 4) = chunk s.k a.g.rows (a.g.cols * 4) c.loop-k-test.true in
    record {
      made = fill_more 0 (a.g.cols * 4) s.k (lines g.P.Made.Record.elements a.g (g.P.Pass.field a.pass.now)) a.s.now s.s c.fill_row.new.s _ _
          (λ j. row_long g.P.Made.Record.elements g.met.P.Made.Record.four a.g (g.P.Pass.field a.pass.now) (a.g.y0 + j))
          (omega (arith, room, c.requires.room)) s.invariant.made (omega arith)
          (ap (λ f. row_of g.P.Made.Record.elements a.g f (a.g.y0 + s.k)) s.invariant.field_kept) made.made;
      field_kept = made.field_kept ∙ s.invariant.field_kept;
      reach_kept = λ x y h. made.reach_kept x y (s.invariant.reach_kept x y h);
    }

pub returns : goal.returns
unfolding rect_of
returns g c =
    let a = c.args in
    fill_done 0 (a.g.cols * 4) _ a.g.rows (lines g.P.Made.Record.elements a.g (g.P.Pass.field a.pass.now)) a.s.now _ c.loop-k.invariant.made
    (omega arith)
