-- `calls::lock` meets its contract. Assumes nothing.
use Rattle.std.proofs.lemmas.Result.{err_from_is_err_and}
use Rattle.calls.proofs.Promised.{lock_told, lock_taken}
use Rattle.calls.proofs.lock.Goals as goal

pub returns-in_err-check_lock : goal.returns-in_err-check_lock
returns-in_err-check_lock c =
    let p = err_from_is_err_and c.from_residual.result c.from_residual.ensures.1 in
    rw (p.1, p.2) (lock_told c.args.scale _ c.side.ensures c.args.header c.args.lock _ c.in_err-check_lock.ensures)

pub returns : goal.returns
returns c = lock_taken c.args.scale _ c.side.ensures c.args.header c.args.lock _ c.in_ok-check_lock.ensures c.with_lock.ensures
