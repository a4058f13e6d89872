-- `palette::nearest` meets its contract: the invariant says that the best so far, taken on through the rest, is the nearest of all. Assumes
-- nothing.
use native.Mathlib.Omega.{arith}
use mathlib.Core.Path.{refl}
use Rattle.std.proofs.lemmas.List.{take_rest}
use Rattle.palette.proofs.nearest.Goals.{then-n-least, else-n-least}
use Rattle.palette.proofs.Laws.{nearest_none, nearest_start, search_taken, search_left, search_done}
use Rattle.palette.proofs.nearest.Goals as goal

pub returns-then-palette-eq0 : goal.returns-then-palette-eq0
returns-then-palette-eq0 c = nearest_none _ _ c.if-palette-eq0.true

pub loop-entry-init : goal.loop-entry-init
loop-entry-init c =
    let l = c.args.palette.now in
    record { is = rw (take_rest l 1) (nearest_start l c.args.word (omega arith)); least_is = c.nearness-least.ensures.0 }

pub loop-entry-preserved : goal.loop-entry-preserved
loop-entry-preserved c =
    let s = c.loop-entry.invariant in
    let h = c.loop-entry-test.true in
    let e = c.nearness-n.ensures.0 in
    elim c.if-n-least.branch [
      | then-n-least w ↦ rw (w.best-is, w.least-is) (search_taken c.args.palette.now _ c.args.word _ _ _ _ _ h refl e w.if-n-least.true s)
      | else-n-least w ↦ rw (w.best-is, w.least-is) (search_left c.args.palette.now _ c.args.word _ _ _ _ _ h refl e w.if-n-least.false s)
    ]

pub returns : goal.returns
returns c = search_done c.args.palette.now _ c.args.word _ _ _ c.loop-entry-test.false c.loop-entry.invariant
