-- `marks::mark_run` meets its contract. Assumes nothing.
use Prim.Native.Nat.{◌-◌}
use native.Mathlib.Omega.{arith}
use Rattle.marks.proofs.Box.{run_marked}
use Rattle.marks.proofs.mark_run.Goals as goal

pub returns : goal.returns
returns c =
    let a = c.args in
    run_marked a.lo (a.hi - a.lo) a.hi a.marks.now _ (omega arith) c.requires.1 (c.fill.ensures.after (λ y e. e))
