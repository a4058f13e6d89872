-- The second pass over a window of the first result: the ring of two blocks round a tile, as a picture of its own, has the blocks of the
-- whole first result; and the first pass, stored, leaves the words of such a window. Assumes nothing.
use mathlib.Core.Path.{◌≡◌, sym, ◌∙◌, ap₂}
use mathlib.Core.List.{List}
use Prim.Native.Nat.{ℕ, ◌+◌, ◌-◌, ◌*◌, ◌/◌, ◌%◌, ◌≤◌, ◌<◌, min}
use native.Mathlib.Omega.{arith}
use lib.ListN.{length, get_or}
use Rattle.picture.specs.Picture.{words}
use Rattle.picture.specs.Span.{Span}
use Rattle.clarity.specs.declared.Clarity.{Clarity}
use Rattle.grid.specs.declared.Grid.{Grid}
use Rattle.block.specs.Block.{block_of}
use Rattle.block.proofs.Locality.{in_window}
use Rattle.block.specs.Ring.{ring_of}
use Rattle.block.specs.Store.{put_rect}
use Rattle.block.specs.Placed.{rect_at}
use Rattle.nine.specs.Nine.{enlarged}
use Rattle.nine.proofs.Nine.{enlarged_at}

-- ---- a window of the first result

-- two blocks to each side, or up to the border, are six words
three_span : {n o m b : ℕ} (i d : ℕ) → i < 3 → d ≤ 6 → Span n o m b 2 2 → Span (3 * n) (3 * o) (3 * m) (3 * b + i) 6 d
three_span i d hi hd s = record { inside = omega arith; low = omega arith; high = omega arith }

-- a window of cols by rows blocks from block (x0, y0) on, which reaches two blocks to each side of (bx, by) or ends where the picture does:
-- the second pass over its words g, as over a picture of its own, gives the blocks of the whole first result
pub second_in_window : (q : Clarity) (w h : ℕ) (f : ℕ → ℕ → ℕ) (x0 y0 cols rows : ℕ) (g : ℕ → ℕ → ℕ)
    → ((X Y : ℕ) → X < 3 * cols → Y < 3 * rows → g X Y ≡ enlarged q w h f (3 * x0 + X) (3 * y0 + Y))
    → (bx by : ℕ) → bx < w → by < h → Span w x0 cols bx 2 2 → Span h y0 rows by 2 2 → (i j : ℕ) → i < 3 → j < 3
    → block_of q (3 * cols) (3 * rows) g (3 * (bx - x0) + i) (3 * (by - y0) + j)
    ≡ block_of q (3 * w) (3 * h) (enlarged q w h f) (3 * bx + i) (3 * by + j)
second_in_window q w h f x0 y0 cols rows g e bx by hx hy sx sy i j hi hj =
    let ex : 3 * (bx - x0) + i ≡ 3 * bx + i - 3 * x0 = omega (arith, sx.low) in
    let ey : 3 * (by - y0) + j ≡ 3 * by + j - 3 * y0 = omega (arith, sy.low) in
    ap₂ {C = List ℕ} (block_of q (3 * cols) (3 * rows) g) ex ey
    ∙ in_window q (3 * w) (3 * h) (enlarged q w h f) (3 * x0) (3 * y0) (3 * cols) (3 * rows) g (3 * bx + i) (3 * by + j)
    (omega arith) (omega arith) (three_span i 6 hi (omega arith) sx) (three_span j 5 hj (omega arith) sy) e

-- ---- the tile of k by r blocks from (x, y) on

-- the ring of two blocks round it, along one axis
pub ring_span : (n x k i : ℕ) → x + k ≤ n → i < k → Span n (x - 2) (min (x + k + 2) n - (x - 2)) (x + i) 2 2
ring_span n x k i h hi =
    let e : x - 2 + (min (x + k + 2) n - (x - 2)) ≡ min (x + k + 2) n = omega arith in
    record { inside = omega arith; low = omega arith; high = rw e (omega arith) }

module _ (q : Clarity) (w h : ℕ) (f : ℕ → ℕ → ℕ) (x y k r : ℕ) (hx : x + k ≤ w) (hy : y + r ≤ h) (g : ℕ → ℕ → ℕ) where
  abbrev s : Grid
  s = ring_of w h x y k r 2

  -- where g is the ring's words, the second pass over it draws the tile's words of the second result
  pub tile_second : ((X Y : ℕ) → X < 3 * s.cols → Y < 3 * s.rows → g X Y ≡ enlarged q w h f (3 * s.x0 + X) (3 * s.y0 + Y))
      → (i j : ℕ) → i < 3 * k → j < 3 * r
      → block_of q (3 * s.cols) (3 * s.rows) g (3 * (x - s.x0) + i) (3 * (y - s.y0) + j)
      ≡ block_of q (3 * w) (3 * h) (enlarged q w h f) (3 * x + i) (3 * y + j)
  tile_second e i j hi hj =
      let ex : 3 * (x - s.x0) + i ≡ 3 * (x + i / 3 - s.x0) + i % 3 = omega arith in
      let ey : 3 * (y - s.y0) + j ≡ 3 * (y + j / 3 - s.y0) + j % 3 = omega arith in
      let ix : 3 * (x + i / 3) + i % 3 ≡ 3 * x + i = omega arith in
      let iy : 3 * (y + j / 3) + j % 3 ≡ 3 * y + j = omega arith in
      ap₂ {C = List ℕ} (block_of q (3 * s.cols) (3 * s.rows) g) ex ey
      ∙ second_in_window q w h f s.x0 s.y0 s.cols s.rows g e (x + i / 3) (y + j / 3) (omega arith) (omega arith)
      (ring_span w x k (i / 3) hx (omega arith)) (ring_span h y r (j / 3) hy (omega arith)) (i % 3) (j % 3) (omega arith) (omega arith)
      ∙ ap₂ {C = List ℕ} (block_of q (3 * w) (3 * h) (enlarged q w h f)) ix iy

-- ---- the words of the window

-- the first pass over a rectangle of blocks, stored side by side, leaves its words of the first result
pub window_words_lem : (q : Clarity) (w h : ℕ) (f : ℕ → ℕ → ℕ) (x0 y0 cols rows : ℕ) (p₀ p : List ℕ) → rows * (3 * (3 * cols)) ≤ length p₀
    → p ≡ put_rect (3 * cols) 0 cols rows (λ i j. block_of q w h f (x0 + i) (y0 + j)) p₀
    → (X Y : ℕ) → X < 3 * cols → Y < 3 * rows → words (3 * cols) p X Y ≡ enlarged q w h f (3 * x0 + X) (3 * y0 + Y)
window_words_lem q w h f x0 y0 cols rows p₀ p room e X Y hx hy =
    let at : Y * (3 * cols) + X ≡ 0 + Y * (3 * cols) + X = omega arith in
    ap₂ {C = ℕ} (λ (l : List ℕ) (n : ℕ). get_or l n 0) e at
    ∙ rect_at (3 * cols) 0 cols (λ i j. block_of q w h f (x0 + i) (y0 + j)) p₀ rows X Y (omega arith) (omega arith) hx hy
    ∙ sym (enlarged_at q w h f x0 y0 X Y)
