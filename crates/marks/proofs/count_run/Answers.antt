-- `marks::count_run` meets its contract. Assumes nothing.
use native.Mathlib.Omega.{arith}
use lib.ListN.{get_or}
use Rattle.machine.specs.Calls.{is_stale}
use Rattle.marks.proofs.Counts.{count_next, one_few}
use Rattle.marks.proofs.count_run.Goals as goal

pub loop-mark-preserved : goal.loop-mark-preserved
loop-mark-preserved c =
    let m = c.args.marks.now in
    let i = c.loop-mark.mark-index in
    (omega (arith, c.from-c.ensures, one_few (is_stale (get_or m i 0))), omega (arith, c.from-c.ensures, count_next i m (omega arith)))
