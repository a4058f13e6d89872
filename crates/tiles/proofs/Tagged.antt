-- The tags of a tile, as `tags_tile` leaves them in its bytes: what they make ready, and the blocks that are stored by them. Assumes nothing.
use mathlib.Core.Path.{◌≡◌, ap, ◌∙◌}
use mathlib.Core.List.{List}
use Prim.Native.Nat.{ℕ, ◌+◌, ◌*◌, ◌≤◌, ◌<◌}
use native.Mathlib.Nat.{mul-le-mul, mul_left_comm}
use native.Mathlib.Omega.{arith}
use lib.ListN.{length, take, drop, length-drop}
use lib.Seq.{take_all}
use Rattle.picture.specs.Picture.{words}
use Rattle.clarity.specs.declared.Clarity.{Clarity}
use Rattle.grid.specs.declared.Grid.{Grid}
use Rattle.grid.specs.Grid.{tags_at}
use Rattle.block.specs.Block.{picture_tags, block_from, block_of}
use Rattle.passes.specs.Window.{Tile, TileTagged, tile_junctions, tile_bytes}
use Rattle.block.specs.Store.{put_rect, RectRoom}
use Rattle.block.specs.StoreLaws.{rect_same}
use Rattle.stale_runs.specs.declared.Source.{Source}
use Rattle.stale_runs.specs.Tiles.{Ready}

module _ (q : Clarity) (s : Source) (k r : ℕ) (b b' : List ℕ)
    (tagged : TileTagged q s.picture.w s.picture.h (words s.picture.w s.picture.words.now) s.x s.y k r b b')
    (tile : Tile s.picture.w s.picture.h s.x s.y k r) (full : length b ≡ tile_bytes) where
  -- the source's words, as they are read
  abbrev at : ℕ → ℕ → ℕ
  at = words s.picture.w s.picture.words.now

  -- the bytes from the tags on
  abbrev tags : List ℕ
  tags = take 768 (drop tile_junctions b')

  rest_long : length (drop tile_junctions b') ≡ 768
  rest_long = omega (arith, length-drop tile_junctions b', tagged.long)

  rest : tags ≡ drop tile_junctions b'
  rest = take_all 768 (drop tile_junctions b') (omega (arith, rest_long))

  long : length tags ≡ 768
  long = ap length rest ∙ rest_long

  -- they have room
  all : r * (4 * k) ≤ 768
  all =
      let c : 4 * k ≤ 64 = omega (arith, tile.few_columns) in
      omega (arith, mul-le-mul tile.few_rows c)

  -- a pixel's tags
  each : (i j n : ℕ) → i < k → j < r → n ≡ j * (4 * k) + i * 4 → tags_at tags n ≡ picture_tags q s.picture.w s.picture.h at (s.x + i) (s.y + j)
  each i j n hi hj e =
      let place : n ≡ (j * k + i) * 4 = omega (arith, e, mul_left_comm j 4 k) in
      ap (λ (l : List ℕ). tags_at l n) rest ∙ ap (tags_at (drop tile_junctions b')) place ∙ tagged.each i j hi hj

  -- the blocks by those tags are the picture's
  block : (i j n : ℕ) → i < k → j < r → n ≡ j * (4 * k) + i * 4
      → block_from s.picture.w s.picture.h at (s.x + i) (s.y + j) (tags_at tags n) ≡ block_of q s.picture.w s.picture.h at (s.x + i) (s.y + j)
  unfolding block_of
  block i j n hi hj e = ap (block_from s.picture.w s.picture.h at (s.x + i) (s.y + j)) (each i j n hi hj e)

  -- they make a tile that the source shows ready
  pub ready : (m : ℕ) (last : ℕ → ℕ → List ℕ) (t : Grid) → m * t.cols ≡ k → m * t.rows ≡ r
      → ((i j : ℕ) → i < k → j < r → block_of q s.picture.w s.picture.h at (s.x + i) (s.y + j) ≡ last (m * t.x0 + i) (m * t.y0 + j))
      → Ready m last t s tags
  ready m last t ek er e = record {
    along = omega (arith, tile.along, ek);
    down = omega (arith, tile.down, er);
    held = s.picture.whole;
    tagged = rw (ek, er) (omega (arith, all, long));
    each = λ i j hi hj.
        let ci : i < k = omega (arith, hi, ek) in
        let cj : j < r = omega (arith, hj, er) in
        block i j (j * (4 * (m * t.cols)) + i * 4) ci cj (ap (λ (n : ℕ). j * (4 * n) + i * 4) ek) ∙ e i j ci cj;
  }

  -- and all of its blocks can be stored side by side
  pub rect_room : (o : ℕ) → r * (3 * (3 * k)) ≤ o
      → RectRoom s.picture.w s.picture.h s.x s.y k r 0 (k * 4) (s.picture.w * s.picture.h) (length tags) (3 * k) 0 o
  rect_room o room =
      let e : r * (k * 4) ≡ r * (4 * k) = ap (λ (n : ℕ). r * n) (omega arith) in
      record {
        along = tile.along;
        down = tile.down;
        picture = omega arith;
        tags = omega (arith, all, e, long);
        apart = omega arith;
        words = omega (arith, room);
        wide = omega (arith, tile.few_columns);
        long = omega (arith, tile.few_columns);
      }

  pub rect_drawn : (ow o : ℕ) (l : List ℕ)
      → put_rect ow o k r (λ i j. block_from s.picture.w s.picture.h at (s.x + i) (s.y + j) (tags_at tags (j * (k * 4) + i * 4))) l
      ≡ put_rect ow o k r (λ i j. block_of q s.picture.w s.picture.h at (s.x + i) (s.y + j)) l
  rect_drawn ow o l =
      rect_same ow o k r _ _ l (λ i j hi hj.
      let e : j * (k * 4) ≡ j * (4 * k) = ap (λ (n : ℕ). j * n) (omega arith) in
      block i j (j * (k * 4) + i * 4) hi hj (omega (arith, e)))
