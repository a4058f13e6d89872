-- `stale_search::skip_clear` meets its contract. Assumes nothing.
use mathlib.Core.Path.{sym, subst}
use Prim.Native.Nat.{ℕ, ◌*◌}
use native.Mathlib.Omega.{arith}
use lib.ListN.{length}
use Rattle.marks.specs.Marks.{ClearUpTo}
use Rattle.stale_search.proofs.Steps.{steps_clear}
use Rattle.stale_search.proofs.skip_clear.Goals as goal

pub overflow_mul-result : goal.overflow_mul-result
overflow_mul-result c =
    let m = c.args.marks.now in
    let r = c.as_chunks in
    omega (arith, (steps_clear 32 _ m r.result.0.now r.ensures.front r.ensures.front_len (omega arith)).to, c.clear_steps.ensures)

pub returns : goal.returns
returns c =
    let m = c.args.marks.now in
    let r = c.as_chunks in
    subst (λ (k : ℕ). ClearUpTo 0 (length m) m (32 * k)) (sym c.clear_steps.ensures)
    (steps_clear 32 _ m r.result.0.now r.ensures.front r.ensures.front_len (omega arith))
