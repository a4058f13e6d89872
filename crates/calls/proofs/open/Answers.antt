-- `calls::open` meets its contract. Assumes nothing.
use mathlib.Core.Path.{◌∙◌}
use Prim.Native.Nat.{◌*◌}
use Rattle.std.proofs.lemmas.Result.{err_from_is_err_and}
use Rattle.calls.proofs.Promised.{open_told, open_taken}
use Rattle.calls.proofs.open.Goals as goal

pub returns-in_err-check_all : goal.returns-in_err-check_all
returns-in_err-check_all c =
    let a = c.args in
    let p = err_from_is_err_and c.from_residual.result c.from_residual.ensures.1 in
    rw (p.1, p.2)
    (open_told a.scale _ c.side.ensures _ c.words-each.ensures a.w a.h a.clarity a.picture.now a.output.now a.marks.now _
    c.fresh-header.ensures _ c.in_err-check_all.ensures)

pub returns : goal.returns
returns c =
    let a = c.args in
    open_taken a.scale _ c.side.ensures _ c.words-each.ensures a.w a.h a.clarity a.picture.now a.output.now a.marks.now _
    c.fresh-header.ensures c.in_ok-check_all.ensures _ (c.blocks-n.ensures ∙ (λ i. (c.fresh-header.ensures i).w * (c.fresh-header.ensures i).h)) _ _
    (c.fill.ensures.after (λ y same. same)) c.mark_run.ensures
