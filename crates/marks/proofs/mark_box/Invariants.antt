-- What the loop keeps.
use mathlib.Core.Path.{◌≡◌}
use Rattle.machine.specs.Lists.{stamp}
use Rattle.marks.specs.Marks.{boxed}
use Rattle.marks.proofs.Box.{from}
use Rattle.marks.proofs.mark_box.Given as goal

abbrev pub invariant-loop-y : goal.invariant-loop-y
invariant-loop-y l =
    stamp (from l.fn.at.w l.fn.at.h l.fn.at.column l.fn.at.row l.fn.reach.side l.fn.reach.up l.fn.reach.down l.y) 1 l.marks
    ≡ stamp (boxed l.fn.at.w l.fn.at.h l.fn.at.column l.fn.at.row l.fn.reach.side l.fn.reach.up l.fn.reach.down) 1 l.initial.marks
