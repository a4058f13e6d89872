-- `refreshed::refresh` meets its contract. Assumes nothing.
use Rattle.std.proofs.lemmas.Result.{err_from_is_err_and}
use Rattle.refreshed.proofs.Promised.{refresh_told, refresh_taken}
use Rattle.refreshed.proofs.refresh.Goals as goal

pub returns-in_err-check_all : goal.returns-in_err-check_all
returns-in_err-check_all c =
    let a = c.args in
    let p = err_from_is_err_and c.from_residual.result c.from_residual.ensures.1 in
    rw (p.1, p.2)
    (refresh_told a.scale _ c.side.ensures _ c.words.ensures a.header a.picture.now a.output.now a.marks.now a.n _
    c.in_err-check_all.ensures)

pub returns : goal.returns
returns c =
    let a = c.args in
    let d = c.draw_first-stale in
    refresh_taken a.scale _ c.side.ensures _ c.words.ensures a.header a.picture.now a.output.now a.marks.now c.in_ok-check_all.ensures a.n
    d.result c.min-drawn.result d.new.output d.new.marks d.ensures.stale_before c.min-drawn.ensures d.ensures.draws.output_now
    d.ensures.draws.marks_now
