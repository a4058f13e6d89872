-- `bands::part::draw_window` meets its contract. Assumes nothing.
use native.Mathlib.Omega.{arith}
use Rattle.stale_runs.proofs.Parts.{window_swept}
use Rattle.bands.proofs.part.draw_window.Goals as goal

pub returns : goal.returns
returns c =
    let right = c.column_end-right in
    let low = c.row_end-low in
    let top = c.first_row-top in
    let a = c.args.a in
    let r = right.ensures in
    let e = low.ensures in
    let u = top.ensures in
    window_swept c.args.frame a.x a.end a.y a.bottom right.result top.result low.result
    (omega (arith, r.0)) r.1.0 u.0 (omega (arith, e.0)) e.1.0 u.1.1 r.1.1 e.1.1 c.draw_tile.ensures
