-- `painted::paint` meets its contract. Assumes nothing.
use Rattle.std.proofs.lemmas.Result.{err_from_is_err_and}
use Rattle.painted.proofs.Promised.{paint_told, paint_counts, paint_taken}
use Rattle.painted.proofs.paint.Goals as goal

pub returns-in_err-check_paint : goal.returns-in_err-check_paint
returns-in_err-check_paint c =
    let a = c.args in
    let p = err_from_is_err_and c.from_residual.result c.from_residual.ensures.1 in
    rw (p.1, p.2)
    (paint_told a.scale _ c.side.ensures a.header a.picture.now a.marks.now a.paint.column a.paint.row a.paint.word _
    c.in_err-check_paint.ensures)

pub count_stale-stale-requires : goal.count_stale-stale-requires
count_stale-stale-requires c =
    let a = c.args in
    let s = c.store_word-changed in
    paint_counts a.scale _ c.side.ensures a.header a.picture.now a.marks.now a.paint.column a.paint.row a.paint.word
    c.in_ok-check_paint.ensures s.new.picture s.new.marks _ s.ensures _ c.blocks-n.ensures

pub returns : goal.returns
returns c =
    let a = c.args in
    let s = c.store_word-changed in
    paint_taken a.scale _ c.side.ensures a.header a.picture.now a.marks.now a.paint.column a.paint.row a.paint.word
    c.in_ok-check_paint.ensures s.new.picture s.new.marks _ s.ensures _ c.blocks-n.ensures _ c.count_stale-stale.ensures
