-- What the code computes N by: two reds, and the gaps of the greens and the blues. Definitions only; no public contract cites them.
use Rattle.std.specs.Prelude.{ℕ, ◌+◌, ◌-◌, ◌*◌}
use Rattle.colour.specs.Nearness.{gap, squared}

unfoldable pub weighed_of : ℕ → ℕ → ℕ → ℕ → ℕ
weighed_of r s g b = (1020 + r + s) * squared (gap r s) + 2040 * squared g + (1530 - r - s) * squared b
