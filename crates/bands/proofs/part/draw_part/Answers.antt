-- `bands::part::draw_part` meets its contract. The stale blocks before column x are drawn. Assumes nothing.
use native.Mathlib.Omega.{arith}
use Rattle.stale_runs.proofs.Swept.{swept_none}
use Rattle.stale_runs.proofs.Parts.{swept_columns}
use Rattle.bands.proofs.part.draw_part.Goals as goal

pub loop-x-preserved : goal.loop-x-preserved
loop-x-preserved c =
    let f = c.args.frame in
    let l = c.loop-x in
    let d = c.draw_window in
    let e = c.min-end in
    let next = c.first_column-x-in-loop-x.ensures in (
      omega (arith, e.ensures, next.0),
      (
        next.1.0,
        swept_columns f e.result (omega (arith, e.ensures)) next.0 (swept_columns f l.x l.invariant.0 (omega (arith, e.ensures)) l.invariant.1.1 d.ensures)
            (swept_none f d.new.output d.new.marks next.1.1),
      ),
    )
