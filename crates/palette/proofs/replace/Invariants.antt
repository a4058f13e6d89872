-- What the loop of `palette::replace` keeps: the first i words stand replaced. Assumes nothing.
use mathlib.Core.Path.{◌≡◌}
use Rattle.palette.proofs.Fills.{Replaced}
use Rattle.palette.proofs.replace.Given as goal

abbrev pub invariant-loop-i : goal.invariant-loop-i
invariant-loop-i l = (l.kept.palette.now ≡ l.palette) × Replaced l.palette l.picture l.initial.replaced l.replaced l.i
