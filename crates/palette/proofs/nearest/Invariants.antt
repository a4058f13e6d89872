-- What the loop of `palette::nearest` keeps: the best of the entries so far and its N. Assumes nothing.
use Rattle.palette.proofs.Laws.{Searched}
use Rattle.palette.proofs.nearest.Given as goal

abbrev pub invariant-loop-entry : goal.invariant-loop-entry
invariant-loop-entry l = Searched l.fn.palette l.rest l.word l.best l.least l.entry-index
