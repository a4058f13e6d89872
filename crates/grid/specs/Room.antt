-- What the passes ask of a rectangle: that it lies on the picture, that a buffer has room for it, and that it holds what a pixel reads.
use Rattle.std.specs.Prelude.{ℕ, ◌+◌, ◌-◌, ◌*◌, ◌≤◌, ◌<◌, min, List, length, take}
use Rattle.std.proofs.Common.{length-take-le, arith}
use Rattle.grid.specs.declared.Grid.{Grid}

-- n elements have room for the rectangle's records
abbrev pub Held : Grid → ℕ → Type 0
Held g n = g.rows * (g.cols * 4) ≤ n

-- the rectangle holds (x, y)
pub record Within (g : Grid) (x y : ℕ) : Type 0 where
  pub left : g.x0 ≤ x
  pub right : x < g.x0 + g.cols
  pub above : g.y0 ≤ y
  pub below : y < g.y0 + g.rows

-- the rectangle lies on the picture
pub record Inner (g : Grid) (w h : ℕ) : Type 0 where
  pub columns : g.x0 + g.cols ≤ w
  pub lines : g.y0 + g.rows ≤ h

-- the rectangle's columns lie on the picture, and so does row y
pub record Strip (g : Grid) (w h y : ℕ) : Type 0 where
  pub columns : g.x0 + g.cols ≤ w
  pub line : y < h

-- (x, y) is on the picture, and the rectangle holds all that is on it within a columns and b rows
pub record Around (a b : ℕ) (g : Grid) (w h x y : ℕ) : Type 0 where
  pub on_x : x < w
  pub on_y : y < h
  pub left : g.x0 ≤ x - a
  pub right : min (x + a + 1) w ≤ g.x0 + g.cols
  pub above : g.y0 ≤ y - b
  pub below : min (y + b + 1) h ≤ g.y0 + g.rows

-- each pixel of the rectangle v in row y is on the picture, and g holds all that is on it within a columns and b rows
pub record Reads (a b : ℕ) (g : Grid) (w h : ℕ) (v : Grid) (y : ℕ) : Type 0 where
  pub columns : v.x0 + v.cols ≤ w
  pub line : y < h
  pub left : g.x0 ≤ v.x0 - a
  pub right : min (v.x0 + v.cols + a) w ≤ g.x0 + g.cols
  pub above : g.y0 ≤ y - b
  pub below : min (y + b + 1) h ≤ g.y0 + g.rows

-- the same of each row of v
pub record Feeds (a b : ℕ) (g : Grid) (w h : ℕ) (v : Grid) : Type 0 where
  pub columns : v.x0 + v.cols ≤ w
  pub lines : v.y0 + v.rows ≤ h
  pub left : g.x0 ≤ v.x0 - a
  pub right : min (v.x0 + v.cols + a) w ≤ g.x0 + g.cols
  pub above : g.y0 ≤ v.y0 - b
  pub below : min (v.y0 + v.rows + b) h ≤ g.y0 + g.rows

pub reads_at : (a b : ℕ) (g : Grid) (w h : ℕ) (v : Grid) (y : ℕ) → Reads a b g w h v y → (i : ℕ) → i < v.cols
    → Around a b g w h (v.x0 + i) y
reads_at a b g w h v y r i hi = record {
  on_x = omega arith;
  on_y = omega arith;
  left = omega arith;
  right = omega arith;
  above = omega arith;
  below = omega arith;
}

pub feeds_at : (a b : ℕ) (g : Grid) (w h : ℕ) (v : Grid) → Feeds a b g w h v → (j : ℕ) → j < v.rows → Reads a b g w h v (v.y0 + j)
feeds_at a b g w h v f j hj = record {
  columns = omega arith;
  line = omega arith;
  left = omega arith;
  right = omega arith;
  above = omega arith;
  below = omega arith;
}

-- the elements before a cut have room for what the cut has room for
pub held_take : {E : Type 0} (g : Grid) (cut : ℕ) (l : List E) → cut ≤ length l → Held g cut → Held g (length (take cut l))
held_take g cut l h k = omega (arith, length-take-le cut l h)
