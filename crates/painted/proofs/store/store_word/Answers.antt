-- `painted::store::store_word` meets its contract. Assumes nothing.
use mathlib.Core.Path.{sym, ap, ◌∙◌}
use Prim.Native.Nat.{ℕ}
use native.Mathlib.Omega.{arith}
use lib.ListN.{length, get_or}
use Rattle.machine.proofs.Ends.{lent_paint}
use Rattle.machine.proofs.PaintEnds.{stores_same, stores_other}
use Rattle.screens.specs.Screens.{screen_of}
use Rattle.screens.proofs.Screens.{within}
use Rattle.painted.proofs.store.store_word.Goals as goal

pub bounds-picture-at : goal.bounds-picture-at
bounds-picture-at c =
    let a = c.args in
    let l = lent_paint (screen_of a.scale) a.header a.picture.now (length a.marks.now) a.paint.column a.paint.row a.paint.word c.requires in
    omega (arith, l.for_picture, c.place-at.ensures.inside l.across l.down)

pub bounds-picture-at-2 : goal.bounds-picture-at-2
bounds-picture-at-2 c =
    let a = c.args in
    let l = lent_paint (screen_of a.scale) a.header a.picture.now (length a.marks.now) a.paint.column a.paint.row a.paint.word c.requires in
    omega (arith, l.for_picture, c.place-at.ensures.inside l.across l.down)

pub returns-then-paint-old : goal.returns-then-paint-old
returns-then-paint-old c =
    let a = c.args in
    stores_same (screen_of a.scale) a.header a.picture.now a.marks.now a.paint.column a.paint.row a.paint.word c.requires
    (c.if-paint-old.true ∙ ap (λ (k : ℕ). get_or a.picture.now k 0) c.place-at.ensures.row_order)

pub mark_paint-requires : goal.mark_paint-requires
mark_paint-requires c =
    let a = c.args in
    let l = lent_paint (screen_of a.scale) a.header a.picture.now (length a.marks.now) a.paint.column a.paint.row a.paint.word c.requires in
    (within a.scale l.wide, (within a.scale l.high, (l.across, (l.down, l.for_marks))))

pub returns : goal.returns
returns c =
    let a = c.args in
    rw c.place-at.ensures.row_order
    (stores_other (screen_of a.scale) a.header a.picture.now a.marks.now a.paint.column a.paint.row a.paint.word c.requires
    (λ z. c.if-paint-old.false (z ∙ ap (λ (k : ℕ). get_or a.picture.now k 0) (sym c.place-at.ensures.row_order)))
    c.mark_paint.new.marks c.mark_paint.ensures)
