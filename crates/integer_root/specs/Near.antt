-- The whole number nearest a root. Definitions only.
use Rattle.std.specs.Prelude.{ℕ, ◌+◌, ◌*◌, ◌^◌, ◌≤◌, ◌<◌}

-- r is the whole number nearest w's root, and has 24 digits: (r - 1/2) ^ 2 < w < (r + 1/2) ^ 2, in whole numbers.
pub record Near (w r : ℕ) : Type 0 where
  pub lo : 2 ^ 23 ≤ r
  pub hi : r < 2 ^ 24
  pub over : r * r < w + r
  pub less : w ≤ r * r + r
