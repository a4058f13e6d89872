-- A rectangle of the picture that a tile has room for. Definitions only.
use Rattle.std.specs.Prelude.{ℕ, ◌+◌, ◌≤◌, ◌<◌}
use Rattle.stale_runs.specs.Tiles.{columns_of, rows_of}

-- columns x to x' - 1 and rows y to y' - 1 lie on the picture and are no more than a tile has
pub record Window (scale w h x x' y y' : ℕ) : Type 0 where
  pub some_columns : x < x'
  pub along : x' ≤ w
  pub few_columns : x' ≤ x + columns_of scale
  pub some_rows : y < y'
  pub down : y' ≤ h
  pub few_rows : y' ≤ y + rows_of scale
