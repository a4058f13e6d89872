-- What a tile asks for, by the screen's number: how large it may be, what the last pass draws, and what stands ready when its blocks are
-- stored. What the code computes by; nothing of the rules rests on it. Definitions only.
use Rattle.std.specs.Prelude.{◌≡◌, cond, List, ℕ, ◌+◌, ◌*◌, ◌≤◌, ◌<◌, eqb, length}
use Rattle.picture.specs.Picture.{words}
use Rattle.clarity.specs.declared.Clarity.{Clarity}
use Rattle.grid.specs.declared.Grid.{Grid}
use Rattle.grid.specs.Grid.{tags_at}
use Rattle.block.specs.Block.{block_from, block_of}
use Rattle.nine.specs.Nine.{enlarged}
use Rattle.stale_runs.specs.declared.Source.{Source}

-- how many pixels of the last pass are a block's width and height
abbrev pub cells_of : ℕ → ℕ
cells_of scale = cond (eqb scale 9) 3 1

-- the most columns and rows of a tile: of the last pass's pixels no more than 16 by 12 have their tags at once
abbrev pub columns_of : ℕ → ℕ
columns_of scale = cond (eqb scale 9) 5 16

abbrev pub rows_of : ℕ → ℕ
rows_of scale = cond (eqb scale 9) 4 12

-- the blocks of nine words of the last pass, over the picture's words f or over the whole first result
abbrev pub last_pass : ℕ → Clarity → ℕ → ℕ → (ℕ → ℕ → ℕ) → ℕ → ℕ → List ℕ
last_pass scale q w h f = cond (eqb scale 9) (block_of q (3 * w) (3 * h) (enlarged q w h f)) (block_of q w h f)

-- a rectangle of the picture that is no more than a tile has
pub record TileOn (scale w h : ℕ) (t : Grid) : Type 0 where
  pub along : t.x0 + t.cols ≤ w
  pub down : t.y0 + t.rows ≤ h
  pub some_columns : 0 < t.cols
  pub few_columns : t.cols ≤ columns_of scale
  pub some_rows : 0 < t.rows
  pub few_rows : t.rows ≤ rows_of scale

-- the blocks of the last pass, m by m for each of the tile's, are those that the source and the tags give
pub record Ready (m : ℕ) (last : ℕ → ℕ → List ℕ) (t : Grid) (s : Source) (tags : List ℕ) : Type 0 where
  pub along : s.x + m * t.cols ≤ s.picture.w
  pub down : s.y + m * t.rows ≤ s.picture.h
  pub held : s.picture.w * s.picture.h ≤ length s.picture.words.now
  pub tagged : m * t.rows * (4 * (m * t.cols)) ≤ length tags
  pub each : (i j : ℕ) → i < m * t.cols → j < m * t.rows
      → block_from s.picture.w s.picture.h (words s.picture.w s.picture.words.now) (s.x + i) (s.y + j)
      (tags_at tags (j * (4 * (m * t.cols)) + i * 4))
      ≡ last (m * t.x0 + i) (m * t.y0 + j)
