-- `stale_search::first_stale` meets its contract. Assumes nothing.
use native.Mathlib.Omega.{arith}
use lib.ListN.{length}
use Rattle.marks.proofs.Parts.{up_two, up_part}
use Rattle.stale_search.proofs.first_stale.Goals as goal

pub returns : goal.returns
returns c =
    let m = c.args.marks.now in
    let s = c.skip_clear-clear in
    up_two m 0 s.result _ (length m) s.ensures (up_part m s.result (length m) _ s.ensures.to (omega arith) c.next_stale.ensures)
