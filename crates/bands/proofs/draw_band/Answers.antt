-- `bands::draw_band` meets its contract. Assumes nothing.
use native.Mathlib.Omega.{arith}
use Rattle.bands.proofs.Bands.{end_of, band_all, band_part}
use Rattle.bands.proofs.draw_band.Goals as goal

pub returns-then-stale-n : goal.returns-then-stale-n
returns-then-stale-n c =
    let a = c.args in
    band_all a.frame c.requires.1 (omega arith) c.requires.0.1.0 c.count_stale-stale.ensures c.if-stale-n.true c.draw_part.ensures

pub returns : goal.returns
returns c =
    let a = c.args in
    let e = c.stale_end-end.ensures in
    let end = end_of a.frame.picture.w a.y a.bottom c.stale_end-end.result a.n a.marks.now e.0 e.1.0 e.1.1 (omega (arith, c.count_stale-stale.ensures)) in
    band_part a.frame c.requires.1 (omega arith) c.requires.0.1.0 c.count_stale-stale.ensures c.stale_end-end.result end e.0 e.1.0 e.1.1
    c.draw_part-2.ensures c.draw_part-3.ensures
