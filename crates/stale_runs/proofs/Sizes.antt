-- A tile has few columns and rows, and some of each. Assumes nothing.
use mathlib.Core.Bool.{Bool, true, false, cond}
use Prim.Native.Nat.{ℕ, ◌≤◌, ◌<◌}
use native.Mathlib.Omega.{arith}
use lib.Dec.{eqb}
use Rattle.stale_runs.specs.Tiles.{columns_of, rows_of}

pub columns_few : (scale : ℕ) → (0 < columns_of scale) × (columns_of scale ≤ 16)
columns_few scale = by_test (eqb scale 9)
  where
    by_test : (t : Bool) → (0 < cond {A = ℕ} t 5 16) × (cond {A = ℕ} t 5 16 ≤ 16)
    by_test true = (omega arith, omega arith)
    by_test false = (omega arith, omega arith)

pub rows_few : (scale : ℕ) → (0 < rows_of scale) × (rows_of scale ≤ 12)
rows_few scale = by_test (eqb scale 9)
  where
    by_test : (t : Bool) → (0 < cond {A = ℕ} t 4 12) × (cond {A = ℕ} t 4 12 ≤ 12)
    by_test true = (omega arith, omega arith)
    by_test false = (omega arith, omega arith)
