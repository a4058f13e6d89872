-- The pixels within two of a tile of the nine-times screen: they are few, and of the first result their words are a window from which the
-- second pass draws the tile as from the whole. Assumes nothing.
use mathlib.Core.Path.{◌≡◌, sym, ap, subst}
use mathlib.Core.List.{List}
use Prim.Native.Nat.{ℕ, ◌+◌, ◌-◌, ◌*◌, ◌≤◌, ◌<◌}
use native.Mathlib.Nat.{mul-le-mul}
use native.Mathlib.Omega.{arith}
use lib.ListN.{length}
use Rattle.picture.specs.Picture.{words}
use Rattle.clarity.specs.declared.Clarity.{Clarity}
use Rattle.grid.specs.declared.Grid.{Grid}
use Rattle.block.specs.Block.{block_of}
use Rattle.block.specs.Ring.{ring_of}
use Rattle.passes.specs.Window.{Tile}
use Rattle.block.specs.Store.{put_rect}
use Rattle.block.specs.StoreLaws.{rect_long}
use Rattle.nine.specs.Nine.{enlarged}
use Rattle.nine.proofs.Second.{tile_second, window_words_lem}
use Rattle.machine.specs.Screen.{Screen}
use Rattle.screens.specs.declared.frame.Frame.{Frame}
use Rattle.screens.specs.Screens.{screen_of}
use Rattle.screens.proofs.Screens.{is_nine}
use Rattle.stale_runs.specs.Tiles.{TileOn, columns_of, rows_of}

-- how many words the window of a tile of the nine-times screen has
abbrev window_words : ℕ
window_words = 648

-- a tile of either screen is one that `passes` takes
pub tile_of : {scale w h : ℕ} {t : Grid} → TileOn scale w h t → columns_of scale ≤ 16 → rows_of scale ≤ 12 → w ≤ 2048 → h ≤ 2048
    → Tile w h t.x0 t.y0 t.cols t.rows
tile_of k c r wide high = record {
  along = k.along;
  down = k.down;
  some_columns = k.some_columns;
  few_columns = omega (arith, k.few_columns);
  some_rows = k.some_rows;
  few_rows = omega (arith, k.few_rows);
  wide = wide;
  high = high;
}

-- the rectangle that reaches two pixels round it
pub record Ringed (w h : ℕ) (t g : Grid) : Type 0 where
  pub left : g.x0 ≤ t.x0
  pub above : g.y0 ≤ t.y0
  pub along : g.x0 + g.cols ≤ w
  pub down : g.y0 + g.rows ≤ h
  pub holds_columns : t.x0 + t.cols ≤ g.x0 + g.cols
  pub holds_rows : t.y0 + t.rows ≤ g.y0 + g.rows
  pub few_columns : g.cols ≤ 9
  pub few_rows : g.rows ≤ 8

module _ {w h : ℕ} {t g : Grid} (k : TileOn 9 w h t) (wide : w ≤ 682) (high : h ≤ 682)
    (e : g ≡ ring_of w h t.x0 t.y0 t.cols t.rows 2) where
  pub ringed : Ringed w h t g
  ringed = subst (Ringed w h t) (sym e) (record {
    left = omega arith;
    above = omega arith;
    along = omega (arith, k.along);
    down = omega (arith, k.down);
    holds_columns = omega (arith, k.along);
    holds_rows = omega (arith, k.down);
    few_columns = omega (arith, k.few_columns);
    few_rows = omega (arith, k.few_rows);
  })

  -- the first pass's tile
  pub first_tile : Tile w h g.x0 g.y0 g.cols g.rows
  first_tile =
      let q = ringed in
      record {
        along = q.along;
        down = q.down;
        some_columns = omega (arith, q, k.some_columns);
        few_columns = omega (arith, q);
        some_rows = omega (arith, q, k.some_rows);
        few_rows = omega (arith, q);
        wide = omega arith;
        high = omega arith;
      }

  pub first_room : g.rows * (3 * (3 * g.cols)) ≤ window_words
  first_room =
      let q = ringed in
      let c : 3 * (3 * g.cols) ≤ 81 = omega (arith, q.few_columns) in
      omega (arith, mul-le-mul q.few_rows c)

  -- the second pass's, on the window
  pub second_tile : Tile (3 * g.cols) (3 * g.rows) (3 * (t.x0 - g.x0)) (3 * (t.y0 - g.y0)) (3 * t.cols) (3 * t.rows)
  second_tile =
      let q = ringed in
      record {
        along = omega (arith, q);
        down = omega (arith, q);
        some_columns = omega (arith, k.some_columns);
        few_columns = omega (arith, k.few_columns);
        some_rows = omega (arith, k.some_rows);
        few_rows = omega (arith, k.few_rows);
        wide = omega (arith, q.few_columns);
        high = omega (arith, q.few_rows);
      }

  module _ (q : Clarity) (f : ℕ → ℕ → ℕ) (l window : List ℕ) (full : length l ≡ window_words)
      (first : window ≡ put_rect (3 * g.cols) 0 g.cols g.rows (λ i j. block_of q w h f (g.x0 + i) (g.y0 + j)) l) where
    pub window_held : 3 * g.cols * (3 * g.rows) ≤ length window
    window_held =
        let r = ringed in
        let c : 3 * g.cols ≤ 27 = omega (arith, r.few_columns) in
        let d : 3 * g.rows ≤ 24 = omega (arith, r.few_rows) in
        let n : length window ≡ length l =
        subst (λ (v : List ℕ). length v ≡ length l) (sym first)
        (rect_long (3 * g.cols) 0 g.cols (λ i j. block_of q w h f (g.x0 + i) (g.y0 + j)) l g.rows (omega (arith, first_room, full))) in
        omega (arith, mul-le-mul c d, n, full)

    abbrev Second : Grid → Type 0
    Second g =
        ((X Y : ℕ) → X < 3 * g.cols → Y < 3 * g.rows → words (3 * g.cols) window X Y ≡ enlarged q w h f (3 * g.x0 + X) (3 * g.y0 + Y))
        → (i j : ℕ) → i < 3 * t.cols → j < 3 * t.rows
        → block_of q (3 * g.cols) (3 * g.rows) (words (3 * g.cols) window) (3 * (t.x0 - g.x0) + i) (3 * (t.y0 - g.y0) + j)
        ≡ block_of q (3 * w) (3 * h) (enlarged q w h f) (3 * t.x0 + i) (3 * t.y0 + j)

    -- a block of the second pass over the window is that of the second pass over the whole first result
    pub second_drawn : (i j : ℕ) → i < 3 * t.cols → j < 3 * t.rows
        → block_of q (3 * g.cols) (3 * g.rows) (words (3 * g.cols) window) (3 * (t.x0 - g.x0) + i) (3 * (t.y0 - g.y0) + j)
        ≡ block_of q (3 * w) (3 * h) (enlarged q w h f) (3 * t.x0 + i) (3 * t.y0 + j)
    second_drawn =
        subst Second (sym e) (λ over. tile_second q w h f t.x0 t.y0 t.cols t.rows k.along k.down _ over)
        (window_words_lem q w h f g.x0 g.y0 g.cols g.rows l window (omega (arith, first_room, full)) first)

-- a tile of a frame of the nine-times screen
pub record NineTile (f : Frame) (t : Grid) : Type 0 where
  pub on : TileOn 9 f.picture.w f.picture.h t
  pub wide : f.picture.w ≤ 682
  pub high : f.picture.h ≤ 682

pub nine_tile : (f : Frame) (t : Grid) → f.scale ≡ 9 → TileOn f.scale f.picture.w f.picture.h t → NineTile f t
nine_tile f t e k =
    let side : (screen_of f.scale).side ≡ 682 = ap (λ (S : Screen). S.side) (is_nine f.scale e) in
    record {
      on = subst (λ (n : ℕ). TileOn n f.picture.w f.picture.h t) e k;
      wide = omega (arith, f.wide, side);
      high = omega (arith, f.high, side);
    }
