-- `passes::tags_tile` meets its contract: the rectangles round the tile hold all that its tags depend on. Assumes nothing.
use lib.Dec.{lit≤}
use mathlib.Core.Path.{◌≡◌}
use Prim.Native.Nat.{ℕ}
use Rattle.picture.specs.Picture.{words}
use Rattle.grid.specs.declared.Grid.{Grid}
use Rattle.passes.specs.Window.{Rooms, tile_metrics, tile_junctions}
use Rattle.passes.specs.Passes.{tile_rooms, tile_tagged}
use Rattle.passes.proofs.tags_tile.Goals as goal

-- the rectangles are the ones round the tile
roomy : {w h p s b : ℕ} {g v q t g' v' q' : Grid} → g ≡ g' → v ≡ v' → q ≡ q'
    → Rooms w h g' v' q' t tile_metrics tile_junctions p s b → Rooms w h g v q t tile_metrics tile_junctions p s b
roomy e f i k = rw (e, f, i) k

pub passes-requires : goal.passes-requires
passes-requires c =
    let p = c.requires in
    roomy c.ring.ensures c.ring-2.ensures c.ring-3.ensures
    (tile_rooms p.0 _ _ _ c.args.picture.whole (lit≤ tt) p.1)

pub returns : goal.returns
returns c =
    let a = c.args in
    let p = c.requires in
    tile_tagged p.0 a.clarity (words a.picture.w a.picture.words.now) a.bytes.now _ p.1
    (rw c.ring-3.ensures at c.passes.ensures.bytes_are)
