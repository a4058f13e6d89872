-- `marks::count_stale` meets its contract. The loop has counted the stale marks of the first runs. Assumes nothing.
use mathlib.Core.Path.{◌≡◌}
use mathlib.Core.List.{map}
use Prim.Native.Nat.{◌+◌, ◌-◌, ◌*◌}
use native.Mathlib.Omega.{arith}
use lib.ListN.{take, drop}
use Rattle.machine.specs.Lists.{count}
use Rattle.machine.specs.Calls.{is_stale}
use Rattle.marks.specs.Marks.{stale_in}
use Rattle.marks.proofs.Counts.{count_run_le, piece_more, piece_last, pieces_few}
use Rattle.marks.proofs.count_stale.Goals as goal

-- one run more, and what is left behind the runs
run_counted : (c : goal.After-count_run) → c.loop-run.c + c.count_run.result
    ≡ count (map is_stale (take (224 * (c.loop-run.run-index + 1)) (take (c.args.hi - c.args.lo) (drop c.args.lo c.args.marks.now))))
run_counted c =
    let a = c.args in
    let r = c.as_chunks in
    piece_more a.lo a.hi a.marks.now c.requires.0 c.requires.1.1 224 _ c.loop-run.run-index c.loop-run.c c.count_run.result
    r.result.0.now r.ensures.front r.ensures.front_len c.loop-run-test.true c.loop-run.invariant c.count_run.ensures

rest_counted : (c : goal.After-count_run-2) → c.loop-run.c + c.count_run-2.result ≡ count (stale_in c.args.lo c.args.hi c.args.marks.now)
rest_counted c =
    let a = c.args in
    let r = c.as_chunks in
    piece_last a.lo a.hi a.marks.now c.requires.0 c.requires.1.1 224 _ c.loop-run.run-index c.loop-run.c c.count_run-2.result
    r.result.1.now (omega (arith, r.ensures.front_len, c.loop-run-test.false)) r.ensures.back c.loop-run.invariant c.count_run-2.ensures

pub overflow_add-c : goal.overflow_add-c
overflow_add-c c = let a = c.args in omega (arith, pieces_few a.lo a.hi a.marks.now c.requires.0 c.requires.1.1 224 0 c.loop-run.run-index c.loop-run.c c.count_run.result _ (run_counted c))

pub loop-run-preserved : goal.loop-run-preserved
loop-run-preserved c = run_counted c

pub overflow_add-result : goal.overflow_add-result
overflow_add-result c =
    let a = c.args in
    let e = rest_counted c in
    omega (arith, e, count_run_le a.lo a.hi a.marks.now c.requires.1.1)

pub returns : goal.returns
returns c = rest_counted c
