-- `Session::show` meets its contract where it is refused: the words that stand for the block's are as many zeros as the screen asks for.
-- Assumes nothing.
use mathlib.Core.Path.{ap, ◌∙◌}
use Rattle.std.proofs.lemmas.Result.{err_from_is_err_and}
use Rattle.screens.specs.Screens.{screen_of}
use Rattle.session.proofs.Beside.{show_beside}
use Rattle.session.proofs.Session.show.Goals as goal

pub returns-in_err-show : goal.returns-in_err-show
returns-in_err-show g c =
    let a = c.args in
    let s = g.S.Screen in
    let p = err_from_is_err_and c.from_residual.result c.from_residual.ensures.1 in
    rw (p.1, p.2)
    (show_beside (screen_of c.SCALE.result) s.screen g.row.N (ap screen_of c.SCALE.ensures ∙ s.numbered) s.sized a.self.header a.output.now
    a.marks.now a.bx a.by _ _ c.in_err-show.ensures)
