-- What drawing asks for and what it leaves, of a frame: its picture, its setting and its screen are those of `Steps` and `Tiles`. Definitions
-- only.
use Rattle.std.specs.Prelude.{List, ℕ}
use Rattle.picture.specs.Picture.{words}
use Rattle.screens.specs.declared.frame.Frame.{Frame}
use Rattle.screens.specs.Screens.{screen_of}
use Rattle.stale_runs.specs.declared.TaggedTile.{TaggedTile}
use Rattle.stale_runs.specs.Steps.{DrawsAll, Draws, Swept}
use Rattle.stale_runs.specs.Tiles.{cells_of, last_pass, TileOn, Ready}

-- the blocks bs drawn, and no longer stale
abbrev pub DrawsOf : Frame → List ℕ → List ℕ → List ℕ → List ℕ → List ℕ → Type 0
DrawsOf f bs = DrawsAll (screen_of f.scale) f.picture.w f.picture.h f.clarity bs f.picture.words.now

-- the first n stale blocks of lo to hi - 1 drawn, and no longer stale; as many as the last number says were stale before
abbrev pub FirstOf : Frame → ℕ → ℕ → ℕ → List ℕ → List ℕ → List ℕ → List ℕ → ℕ → Type 0
FirstOf f lo hi n = Draws (screen_of f.scale) f.picture.w f.picture.h f.clarity lo hi n f.picture.words.now

-- the stale blocks of R drawn, in whatever order, and no longer stale
abbrev pub SweptOf : Frame → (ℕ → Type 0) → List ℕ → List ℕ → List ℕ → List ℕ → Type 0
SweptOf f R = Swept (screen_of f.scale) f.picture.w f.picture.h f.clarity R f.picture.words.now

-- the tile is one of the frame's, and its source and its tags stand ready
abbrev pub TileReady : Frame → TaggedTile → Type 0
TileReady f t =
    TileOn f.scale f.picture.w f.picture.h t.grid
    × Ready (cells_of f.scale) (last_pass f.scale f.clarity f.picture.w f.picture.h (words f.picture.w f.picture.words.now))
    t.grid t.source t.tags.now
