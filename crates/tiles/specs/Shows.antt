-- What a source is to a tile before its tags are there: it holds the tile's pixels of the last pass, and the pass over it draws there what
-- the last pass draws. Definitions only.
use Rattle.std.specs.Prelude.{◌≡◌, List, ℕ, ◌+◌, ◌*◌, ◌<◌}
use Rattle.picture.specs.Picture.{words}
use Rattle.clarity.specs.declared.Clarity.{Clarity}
use Rattle.grid.specs.declared.Grid.{Grid}
use Rattle.block.specs.Block.{block_of}
use Rattle.passes.specs.Window.{Tile}
use Rattle.screens.specs.declared.frame.Frame.{Frame}
use Rattle.stale_runs.specs.declared.Source.{Source}
use Rattle.stale_runs.specs.Tiles.{cells_of, last_pass}

-- m by m of the source's pixels for each of the tile's blocks
pub record Shows (q : Clarity) (m : ℕ) (last : ℕ → ℕ → List ℕ) (t : Grid) (s : Source) : Type 0 where
  pub held : Tile s.picture.w s.picture.h s.x s.y (m * t.cols) (m * t.rows)
  pub each : (i j : ℕ) → i < m * t.cols → j < m * t.rows
      → block_of q s.picture.w s.picture.h (words s.picture.w s.picture.words.now) (s.x + i) (s.y + j)
      ≡ last (m * t.x0 + i) (m * t.y0 + j)

abbrev pub ShowsTile : Frame → Grid → Source → Type 0
ShowsTile f = Shows f.clarity (cells_of f.scale) (last_pass f.scale f.clarity f.picture.w f.picture.h (words f.picture.w f.picture.words.now))
