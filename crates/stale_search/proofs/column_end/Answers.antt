-- `stale_search::column_end` meets its contract. In the rows before `row` no column from c on has a stale block. Assumes nothing.
use Prim.Native.Nat.{◌+◌, ◌*◌}
use native.Mathlib.Omega.{arith}
use Rattle.marks.proofs.Parts.{room, down_part, right_more}
use Rattle.stale_search.proofs.column_end.Goals as goal

pub loop-row-preserved : goal.loop-row-preserved
loop-row-preserved c =
    let p = c.args in
    let m = p.marks.now in
    let l = c.loop-row in
    let r = room l.row c.requires.1 (omega arith) in
    let t = down_part m (l.row * p.w + l.c) (l.row * p.w + p.a.end) _ (omega arith) (omega (arith, r.marked, c.requires.1.along)) c.last_stale.ensures in
    (omega arith, omega (arith, t.to), right_more p.w m l.c p.a.end p.a.y l.row _ l.invariant.2 t)
