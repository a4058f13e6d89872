-- `field::metrics_rect` meets its contract: at first the distance of a word to itself is known. Assumes nothing.
use mathlib.Core.Path.{refl, sym}
use lib.Ieee.{of_bits}
use Rattle.metric.proofs.Laws.{distance_zero}
use Rattle.field.proofs.metrics_rect.Goals as goal

pub invariant_of-fill_rect : goal.invariant_of-fill_rect
unfolding of_bits
invariant_of-fill_rect c = record { is = sym ((distance_zero 0 0).1 refl) }
