-- `three::mark_paint` meets its contract. Assumes nothing.
use mathlib.Core.Path.{◌∙◌, ap}
use Rattle.machine.specs.Lists.{stamp}
use Rattle.marks.specs.Marks.{boxed}
use Rattle.three.proofs.Cross.{cross_marked}
use Rattle.three.proofs.mark_paint.Goals as goal

pub returns : goal.returns
returns c =
    let a = c.args.at in
    c.mark_box-2.ensures
    ∙ ap (stamp (boxed a.w a.h a.column a.row 3 5 6) 1) c.mark_box.ensures
    ∙ cross_marked a.w a.h a.column a.row c.args.marks.now
