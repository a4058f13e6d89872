-- `refusals::check_all` meets its contract. Assumes nothing.
use Rattle.std.proofs.Common.{rules}
use Rattle.refusals.proofs.Numbers.{header_first, header_next}
use Rattle.refusals.proofs.check_all.Goals as goal

pub returns-in_err-check_header : goal.returns-in_err-check_header
returns-in_err-check_header c = search (rules, header_first)

pub returns : goal.returns
returns c = search (rules, header_next)
