-- What the loop keeps: the first i items stand in the array.
use mathlib.Core.Path.{◌≡◌}
use mathlib.Core.List.{map}
use Rattle.paints.specs.Paints.{gathered}
use Rattle.gathered.proofs.gather_items.Given as goal

abbrev pub invariant-loop-i : goal.invariant-loop-i
invariant-loop-i g l = l.a ≡ gathered (map g.T.Item.paint l.items) l.i
