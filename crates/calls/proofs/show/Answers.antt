-- `calls::show` meets its contract. Assumes nothing.
use Rattle.std.proofs.lemmas.Result.{err_from_is_err_and}
use Rattle.calls.proofs.Promised.{show_told, show_taken}
use Rattle.calls.proofs.show.Goals as goal

pub returns-in_err-check_show : goal.returns-in_err-check_show
returns-in_err-check_show c =
    let a = c.args in
    let p = err_from_is_err_and c.from_residual.result c.from_residual.ensures.1 in
    rw (p.1, p.2)
    (show_told a.scale _ c.side.ensures _ c.words.ensures a.header a.output.now a.marks.now a.bx a.by _ a.block.now c.requires
    c.in_err-check_show.ensures)

pub returns : goal.returns
returns c =
    let a = c.args in
    show_taken a.scale _ c.side.ensures _ c.words.ensures a.header a.output.now a.marks.now a.bx a.by _ c.in_ok-check_show.ensures
    c.read_block.ensures
