-- Blocks of the last pass stored for a run of a tile's blocks, m by m for each: room for them, and that they are the run drawn. What is said
-- over a Bool holds for both screens, true being the nine-times. Assumes nothing.
use mathlib.Core.Path.{◌≡◌, ap, ap₂, ◌∙◌}
use mathlib.Core.Bool.{Bool, true, false, cond}
use mathlib.Core.List.{List}
use Prim.Native.Nat.{ℕ, ◌+◌, ◌*◌, ◌≤◌, ◌<◌}
use native.Mathlib.Nat.{mul-add, add-mul, mul-le-mul, mul-le-mul_left, mul-le-mul_right, zero-mul, add-zero, one-mul}
use native.Mathlib.Omega.{arith}
use lib.ListN.{length, take}
use Rattle.picture.specs.Picture.{words}
use Rattle.clarity.specs.declared.Clarity.{Clarity}
use Rattle.grid.specs.declared.Grid.{Grid}
use Rattle.grid.specs.Grid.{tags_at}
use Rattle.block.specs.Block.{block_from, block_of}
use Rattle.block.specs.Store.{put_row, put_rect, RectRoom}
use Rattle.block.specs.StoreLaws.{rect_same}
use Rattle.machine.specs.Screen.{Screen, place, block_words}
use Rattle.machine.specs.Machine.{put_all}
use Rattle.marks.specs.Marks.{blocks_from}
use Rattle.three.specs.Three.{screen3}
use Rattle.three.proofs.Runs.{run_drawn}
use Rattle.nine.specs.Nine.{enlarged, screen9}
use Rattle.nine.proofs.Runs.{run_drawn9}
use Rattle.stale_runs.specs.declared.Source.{Source}
use Rattle.stale_runs.specs.Tiles.{Ready}

abbrev screen : Bool → Screen
screen b = cond b screen9 screen3

abbrev last : Bool → Clarity → ℕ → ℕ → (ℕ → ℕ → ℕ) → ℕ → ℕ → List ℕ
last b q w h f = cond b (block_of q (3 * w) (3 * h) (enlarged q w h f)) (block_of q w h f)

-- a tile is small: the products that a run's places are computed by
pub record Small (m w k i j n : ℕ) : Type 0 where
  pub cells : m ≤ 3
  pub wide : m * w ≤ 2048
  pub columns : m * k ≤ 16
  pub left : m * i ≤ 16
  pub top : m * j ≤ 12
  pub run : m * n ≤ 16
  pub bytes : m * j * (4 * (m * k)) ≤ 768

pub small : (b : Bool) {w k r i j n : ℕ} → w ≤ (screen b).side → k ≤ cond b 5 16 → r ≤ cond b 4 12 → i + n ≤ k → j < r
    → Small (cond b 3 1) w k i j n
small true {w} {k} {r} {i} {j} {n} hw hk hr hi hj =
    let a : 3 * j ≤ 12 = omega arith in
    let c : 4 * (3 * k) ≤ 64 = omega arith in
    record {
      cells = omega arith;
      wide = omega arith;
      columns = omega arith;
      left = omega arith;
      top = a;
      run = omega arith;
      bytes = omega (arith, mul-le-mul a c);
    }
small false {w} {k} {r} {i} {j} {n} hw hk hr hi hj =
    let a : 1 * j ≤ 12 = omega arith in
    let c : 4 * (1 * k) ≤ 64 = omega arith in
    record {
      cells = omega arith;
      wide = omega arith;
      columns = omega arith;
      left = omega arith;
      top = a;
      run = omega arith;
      bytes = omega (arith, mul-le-mul a c);
    }

-- ---- where the run stands

-- the last of the output's rows that the run has is the picture's
ends : (b : Bool) (w h x y n o : ℕ) → x + n ≤ w → y < h → block_words (screen b) * (w * h) ≤ o
    → place (screen b) w x y 0 + cond b 3 1 * (3 * (3 * (cond b 3 1 * w))) + cond b 3 1 * n * 3 ≤ o + 3 * (cond b 3 1 * w)
ends true w h x y n o along down long =
    let a : (y + 1) * (81 * w) ≤ h * (81 * w) = mul-le-mul_right (81 * w) (omega arith) in
    omega (arith, a, along, long)
ends false w h x y n o along down long =
    let a : (y + 1) * (9 * w) ≤ h * (9 * w) = mul-le-mul_right (9 * w) (omega arith) in
    omega (arith, a, along, long)

module _ (b : Bool) (q : Clarity) (w h : ℕ) (p tags : List ℕ) (t : Grid) (s : Source)
    (ready : Ready (cond b 3 1) (last b q w h (words w p)) t s tags) (i j n : ℕ) (few : i + n ≤ t.cols) (high : j < t.rows) where
  abbrev m : ℕ
  m = cond b 3 1

  abbrev row : ℕ
  row = 4 * (m * t.cols)

  abbrev from : ℕ
  from = m * j * row + 4 * (m * i)

  across : m * i + m * n ≤ m * t.cols
  across = omega (arith, mul-le-mul_left m few, mul-add m i n)

  down : m * j + m ≤ m * t.rows
  down =
      let a : j + 1 ≤ t.rows = omega arith in
      omega (arith, mul-le-mul_left m a, mul-add m j 1)

  pub source_row : s.y + m * j ≤ s.picture.h
  source_row = omega (arith, down, ready.down)

  pub run_room : (o : ℕ) → Small m w t.cols i j n → t.x0 + t.cols ≤ w → t.y0 + t.rows ≤ h → block_words (screen b) * (w * h) ≤ o
      → RectRoom s.picture.w s.picture.h (s.x + m * i) (s.y + m * j) (m * n) m from row (length s.picture.words.now) (length tags) (3 * (m * w))
      (place (screen b) w (t.x0 + i) (t.y0 + j) 0) o
  run_room o small hx hy long =
      let a : (m * j + m) * row ≤ m * t.rows * row = mul-le-mul_right row down in
      let wide : m * n ≤ m * w = mul-le-mul_left m (omega arith) in
      record {
        along = omega (arith, across, ready.along);
        down = omega (arith, down, ready.down);
        picture = ready.held;
        tags = omega (arith, a, across, ready.tagged, add-mul (m * j) m row);
        apart = omega (arith, wide);
        words = ends b w h (t.x0 + i) (t.y0 + j) n o (omega arith) (omega arith) long;
        wide = omega (arith, small.wide);
        long = omega (arith, small.columns);
      }

  -- what the source and the tags give, as blocks of the last pass
  cells_same : (ow at : ℕ) (out : List ℕ)
      → put_rect ow at (m * n) m (λ c r. block_from s.picture.w s.picture.h (words s.picture.w s.picture.words.now) (s.x + m * i + c) (s.y + m * j + r)
      (tags_at tags (from + r * row + c * 4))) out
      ≡ put_rect ow at (m * n) m (λ c r. last b q w h (words w p) (m * (t.x0 + i) + c) (m * (t.y0 + j) + r)) out
  cells_same ow at out =
      rect_same ow at (m * n) m _ _ out (λ c r hc hr.
      let ex : s.x + m * i + c ≡ s.x + (m * i + c) = omega arith in
      let ey : s.y + m * j + r ≡ s.y + (m * j + r) = omega arith in
      let et : from + r * row + c * 4 ≡ (m * j + r) * row + (m * i + c) * 4 = omega (arith, add-mul (m * j) r row) in
      let ix : m * t.x0 + (m * i + c) ≡ m * (t.x0 + i) + c = omega (arith, mul-add m t.x0 i) in
      let iy : m * t.y0 + (m * j + r) ≡ m * (t.y0 + j) + r = omega (arith, mul-add m t.y0 j) in
      ap (λ (n : ℕ). block_from s.picture.w s.picture.h (words s.picture.w s.picture.words.now) n (s.y + m * j + r) (tags_at tags (from + r * row + c * 4))) ex
      ∙ ap (λ (n : ℕ). block_from s.picture.w s.picture.h (words s.picture.w s.picture.words.now) (s.x + (m * i + c)) n (tags_at tags (from + r * row + c * 4))) ey
      ∙ ap (λ (n : ℕ). block_from s.picture.w s.picture.h (words s.picture.w s.picture.words.now) (s.x + (m * i + c)) (s.y + (m * j + r)) (tags_at tags n)) et
      ∙ ready.each (m * i + c) (m * j + r) (omega (arith, across)) (omega (arith, down))
      ∙ ap₂ {C = List ℕ} (last b q w h (words w p)) ix iy)

-- ---- what it is

-- one row of blocks
one_row : (ow at k : ℕ) (blocks : ℕ → ℕ → List ℕ) (l : List ℕ) → put_rect ow at k 1 blocks l ≡ put_row ow at k (λ i. blocks i 0) l
unfolding put_rect
one_row ow at k blocks l =
    ap (λ (o : ℕ). put_row ow o k (λ i. blocks i 0) l) (ap (λ (z : ℕ). at + z) (zero-mul (3 * ow)) ∙ add-zero at)

drawn : (b : Bool) (q : Clarity) (w h x y n : ℕ) (p out : List ℕ) → x + n ≤ w → y < h → block_words (screen b) * (w * h) ≤ length out
    → put_rect (3 * (cond b 3 1 * w)) (place (screen b) w x y 0) (cond b 3 1 * n) (cond b 3 1)
    (λ c r. last b q w h (words w p) (cond b 3 1 * x + c) (cond b 3 1 * y + r)) out
    ≡ put_all (screen b) w h q (take (w * h) p) (blocks_from (y * w + x) n) out
drawn true q w h x y n p out along down long =
    let e : 3 * (3 * w) ≡ 9 * w = omega arith in
    ap (λ (ow : ℕ). put_rect ow (place screen9 w x y 0) (3 * n) 3
    (λ c r. block_of q (3 * w) (3 * h) (enlarged q w h (words w p)) (3 * x + c) (3 * y + r)) out) e
    ∙ run_drawn9 q w h x y n p out along down long
drawn false q w h x y n p out along down long =
    let at : ℕ = place screen3 w x y 0 in
    let f : ℕ → ℕ → ℕ = words w p in
    let blocks : ℕ → ℕ → List ℕ = λ c r. block_of q w h f (1 * x + c) (1 * y + r) in
    let same : ℕ → ℕ → List ℕ = λ c r. block_of q w h f (x + c) (y + r) in
    let ey : y + 0 ≡ y = omega arith in
    ap₂ {C = List ℕ} (λ (a k : ℕ). put_rect (3 * a) at k 1 blocks out) (one-mul w) (one-mul n)
    ∙ rect_same (3 * w) at n 1 blocks same out (λ c r hc hr. ap₂ {C = List ℕ} (λ (a d : ℕ). block_of q w h f (a + c) (d + r)) (one-mul x) (one-mul y))
    ∙ one_row (3 * w) at n same out
    ∙ ap (λ (d : ℕ). put_row (3 * w) at n (λ c. block_of q w h f (x + c) d) out) ey
    ∙ run_drawn q w h x y n p out along down long

module _ (b : Bool) (q : Clarity) (w h : ℕ) (p tags : List ℕ) (t : Grid) (s : Source)
    (ready : Ready (cond b 3 1) (last b q w h (words w p)) t s tags) (i j n : ℕ) (few : i + n ≤ t.cols) (high : j < t.rows) where
  pub run_stored : (out : List ℕ) → t.x0 + t.cols ≤ w → t.y0 + t.rows ≤ h → block_words (screen b) * (w * h) ≤ length out
      → put_rect (3 * (cond b 3 1 * w)) (place (screen b) w (t.x0 + i) (t.y0 + j) 0) (cond b 3 1 * n) (cond b 3 1)
      (λ c r. block_from s.picture.w s.picture.h (words s.picture.w s.picture.words.now) (s.x + cond b 3 1 * i + c) (s.y + cond b 3 1 * j + r)
      (tags_at tags (cond b 3 1 * j * (4 * (cond b 3 1 * t.cols)) + 4 * (cond b 3 1 * i) + r * (4 * (cond b 3 1 * t.cols)) + c * 4))) out
      ≡ put_all (screen b) w h q (take (w * h) p) (blocks_from ((t.y0 + j) * w + (t.x0 + i)) n) out
  run_stored out hx hy long =
      cells_same b q w h p tags t s ready i j n few high (3 * (cond b 3 1 * w)) (place (screen b) w (t.x0 + i) (t.y0 + j) 0) out
      ∙ drawn b q w h (t.x0 + i) (t.y0 + j) n p out (omega arith) (omega arith) long
