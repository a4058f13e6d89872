-- `stale_search::row_clear` meets its contract. Assumes nothing.
use mathlib.Core.Path.{sym, ◌∙◌}
use Prim.Native.Nat.{◌+◌, ◌*◌}
use native.Mathlib.Omega.{arith}
use borrow.Author.Tests.{eqb-true}
use Rattle.marks.proofs.Counts.{none_clear}
use Rattle.marks.proofs.Parts.{room, clear_row}
use Rattle.stale_search.proofs.row_clear.Goals as goal

pub returns : goal.returns
returns c t =
    let p = c.args in
    let r = room p.j c.requires (omega arith) in
    clear_row p.w p.marks.now p.a.x p.a.end p.j
    (none_clear (p.j * p.w + p.a.x) (p.j * p.w + p.a.end) p.marks.now
    (sym c.count_stale.ensures ∙ eqb-true c.count_stale.result 0 t) (omega arith))
