-- `marks::mark_box` meets its contract. The box's rows from y on are left to do. Assumes nothing.
use mathlib.Core.Path.{sym, ap, ap₂, ◌∙◌}
use Prim.Native.Nat.{ℕ, ◌+◌, ◌*◌}
use native.Mathlib.Omega.{arith}
use Rattle.machine.specs.Lists.{stamp}
use Rattle.marks.specs.Marks.{run}
use Rattle.marks.proofs.Box.{from, box_start, box_step, box_end}
use Rattle.marks.proofs.mark_box.Goals as goal

pub loop-y-init : goal.loop-y-init
loop-y-init c =
    let p = c.args.at in
    let r = c.args.reach in
    box_start p.w p.h p.column p.row r.side r.up r.down _ c.args.marks.now c.saturating_sub-y.ensures

pub loop-y-preserved : goal.loop-y-preserved
loop-y-preserved c =
    let p = c.args.at in
    let r = c.args.reach in
    let l = c.loop-y in
    ap (stamp (from p.w p.h p.column p.row r.side r.up r.down (l.y + 1)) 1)
    (c.mark_run.ensures
    ∙ ap₂ (λ (x x' : ℕ). stamp (run (l.y * p.w + x) (l.y * p.w + x')) 1 l.marks) c.saturating_sub-x0.ensures c.min-x1.ensures)
    ∙ box_step p.w p.h p.column p.row r.side r.up r.down l.y l.marks p.inside.0
    (omega (arith, l.auto.y, c.saturating_sub-y.ensures)) (omega (arith, c.loop-y-test.true, c.min-y1.ensures))
    ∙ l.invariant

pub returns : goal.returns
returns c =
    let p = c.args.at in
    let r = c.args.reach in
    let l = c.loop-y in
    sym (box_end p.w p.h p.column p.row r.side r.up r.down l.y l.marks p.inside.0 (omega (arith, c.loop-y-test.false, c.min-y1.ensures)))
    ∙ l.invariant
