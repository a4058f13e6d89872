-- `paint_refusals::check_list` meets its contract. Assumes nothing.
use Rattle.std.proofs.Common.{rules}
use Rattle.refusals.proofs.Numbers.{lent_first, lent_then}
use Rattle.paint_refusals.proofs.check_list.Goals as goal

pub returns-in_err-check_lent : goal.returns-in_err-check_lent
returns-in_err-check_lent c = search (rules, lent_first)

pub returns : goal.returns
returns c = search (rules, lent_then)
