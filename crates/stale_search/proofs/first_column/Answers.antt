-- `stale_search::first_column` meets its contract. In the rows before j no column before c has a stale block. Assumes nothing.
use Prim.Native.Nat.{◌+◌, ◌*◌}
use native.Mathlib.Omega.{arith}
use Rattle.marks.proofs.Parts.{room, up_part, left_more}
use Rattle.stale_search.proofs.first_column.Goals as goal

pub loop-j-preserved : goal.loop-j-preserved
loop-j-preserved c =
    let p = c.args in
    let m = p.marks.now in
    let l = c.loop-j in
    let r = room l.j c.requires (omega arith) in
    let t = up_part m (l.j * p.w + p.a.x) (l.j * p.w + l.c) _ (omega arith) (omega (arith, r.marked, c.requires.along)) c.first_stale.ensures in
    (omega arith, omega (arith, t.to), left_more p.w m p.a.x l.c p.a.y l.j _ l.invariant.2 t)
