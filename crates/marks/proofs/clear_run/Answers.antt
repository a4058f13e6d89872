-- `marks::clear_run` meets its contract. Assumes nothing.
use native.Mathlib.Omega.{arith}
use Prim.Native.Nat.{◌+◌, ◌-◌}
use Rattle.marks.proofs.Box.{run_cleared}
use Rattle.marks.proofs.clear_run.Goals as goal

pub returns : goal.returns
returns c =
    let a = c.args in
    run_cleared a.b a.k (a.b + a.k - a.b) a.marks.now _ (omega arith) c.requires (c.fill.ensures.after (λ y e. e))
