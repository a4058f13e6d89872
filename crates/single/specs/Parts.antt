-- The parts of a single, as the root is computed of them. Definitions only.
use Rattle.std.specs.Prelude.{◌≡◌, ℕ, ◌*◌, ◌^◌, ◌≤◌, ◌<◌}
use Rattle.single.specs.Root.{single}

-- the single with the pattern b is m * 2 ^ (e - 126) units; m has 24 digits, and e is small
pub record PartsOf (b m e : ℕ) : Type 0 where
  pub lo : 2 ^ 23 ≤ m
  pub hi : m < 2 ^ 24
  pub few : e < 400
  pub is : single b * 2 ^ 126 ≡ m * 2 ^ e
