-- `metric::color_distance` meets its contract: words with equal low 24 bits have the distance 0. Assumes nothing.
use mathlib.Core.Path.{sym, ◌∙◌}
use lib.Ieee.{of_bits}
use Rattle.metric.proofs.Distances.{zero_where}
use Rattle.metric.proofs.color_distance.Goals as goal

pub returns-then-same : goal.returns-then-same
unfolding of_bits
returns-then-same c = sym (zero_where c.args.p c.args.q (sym c.same.ensures ∙ c.if-same.true))
