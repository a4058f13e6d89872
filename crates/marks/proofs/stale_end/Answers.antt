-- `marks::stale_end` meets its contract. The marks from lo up to i have d stale ones. Assumes nothing.
use Prim.Native.Nat.{◌<◌}
use native.Mathlib.Omega.{arith}
use lib.ListN.{get_or}
use Rattle.machine.specs.Calls.{is_stale}
use Rattle.marks.proofs.Counts.{count_more, one_few, run_left}
use Rattle.marks.proofs.stale_end.Goals as goal

pub loop-d-preserved : goal.loop-d-preserved
loop-d-preserved c =
    let a = c.args in
    let l = c.loop-d in
    let m = a.marks.now in
    let left : l.i < a.hi = run_left a.lo l.i a.hi m (omega arith) (omega arith) (omega arith) (omega (arith, l.invariant.3)) in (
      omega arith,
      omega arith,
      omega (arith, c.from-d.ensures, one_few (is_stale (get_or m l.i 0))),
      omega (arith, c.from-d.ensures, count_more a.lo l.i m (omega arith) (omega arith)),
    )
