-- What the passes ask of the rectangles that they run on, one after the other, and what they leave; the rectangles round a tile of pixels.
-- What the code computes by; nothing of the rules rests on it. Definitions only.
use Rattle.std.specs.Prelude.{◌≡◌, List, ℕ, ◌+◌, ◌*◌, ◌≤◌, ◌<◌, Float, length, drop}
use Rattle.picture.specs.Fill.{put}
use Rattle.clarity.specs.declared.Clarity.{Clarity}
use Rattle.metric.specs.Metric.{metrics}
use Rattle.weight.specs.Weight.{weights}
use Rattle.grid.specs.declared.Grid.{Grid}
use Rattle.grid.specs.Grid.{of_metric, of_weights, of_junctions, of_tags, tags_at, rect_of}
use Rattle.grid.specs.Room.{Held, Inner, Feeds}
use Rattle.block.specs.Block.{picture_junctions, picture_tags}
use Rattle.block.specs.Ring.{tile_of, ring_of}

-- metrics of g before the cut and weights of v from there on in s singles, junctions of q before `from` and tags of t from there on in b
-- bytes: there is room, and each rectangle holds what the next one reads
pub record Rooms (w h : ℕ) (g v q t : Grid) (cut from p s b : ℕ) : Type 0 where
  pub picture : w * h ≤ p
  pub metrics_on : Inner g w h
  pub to_weights : Feeds 1 1 g w h v
  pub to_junctions : Feeds 1 1 g w h q
  pub over_junctions : Feeds 1 1 v w h q
  pub to_tags : Feeds 3 3 q w h t
  pub metrics_room : Held g cut
  pub weights_room : cut + v.rows * (v.cols * 4) ≤ s
  pub junctions_room : Held q from
  pub tags_room : from + t.rows * (t.cols * 4) ≤ b

-- the records of the picture f at a setting of clarity, written over the singles s and the bytes b
pub record Passed (clarity : Clarity) (w h : ℕ) (f : ℕ → ℕ → ℕ) (g v q t : Grid) (cut from : ℕ)
    (s s' : List Float) (b b' : List ℕ) : Type 0 where
  pub singles_are : s' ≡ put cut (rect_of of_weights v (weights clarity w h (metrics w h f))) (put 0 (rect_of of_metric g (metrics w h f)) s)
  pub bytes_are : b' ≡ put from (rect_of of_tags t (picture_tags clarity w h f))
      (put 0 (rect_of of_junctions q (picture_junctions clarity w h f)) b)

-- k by r pixels from (x, y) on, of a picture of at most 2,048 a side
pub record Tile (w h x y k r : ℕ) : Type 0 where
  pub along : x + k ≤ w
  pub down : y + r ≤ h
  pub some_columns : 0 < k
  pub few_columns : k ≤ 16
  pub some_rows : 0 < r
  pub few_rows : r ≤ 12
  pub wide : w ≤ 2048
  pub high : h ≤ 2048

-- how many singles the metrics of the pixels within 5 of a tile take, 26 by 22 of them at most and four singles each, and with the
-- weights of those within 4, 24 by 20 at most: 26 * 22 * 4, and 24 * 20 * 4 more
abbrev pub tile_metrics : ℕ
tile_metrics = 2288

abbrev pub tile_singles : ℕ
tile_singles = 4208

-- how many bytes the junctions of the pixels within 3 of a tile take, 22 by 18 at most, and with the tags of its own, 16 by 12 at most:
-- 22 * 18 * 4, and 16 * 12 * 4 more
abbrev pub tile_junctions : ℕ
tile_junctions = 1584

abbrev pub tile_bytes : ℕ
tile_bytes = 2352

-- the junctions round a tile and after them its tags, written over the bytes b
pub record TileTagged (q : Clarity) (w h : ℕ) (f : ℕ → ℕ → ℕ) (x y k r : ℕ) (b b' : List ℕ) : Type 0 where
  pub is : b' ≡ put tile_junctions (rect_of of_tags (tile_of x y k r) (picture_tags q w h f))
      (put 0 (rect_of of_junctions (ring_of w h x y k r 3) (picture_junctions q w h f)) b)
  pub long : length b' ≡ length b
  pub each : (i j : ℕ) → i < k → j < r → tags_at (drop tile_junctions b') ((j * k + i) * 4) ≡ picture_tags q w h f (x + i) (y + j)
