-- What the loop keeps.
use Rattle.picture.specs.Fill.{Filled}
use Rattle.copies.proofs.Runs.{copies}
use Rattle.copies.proofs.copy_words.Given as goal

abbrev pub invariant-loop-i : goal.invariant-loop-i
invariant-loop-i l = Filled 0 3 l.i (copies l.words) l.initial.out l.out
