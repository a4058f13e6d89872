-- A row of a tile lies within the picture and the marks, whose numbers are small. Assumes nothing.
use mathlib.Core.Path.{◌≡◌, sym, ap, ◌∙◌, subst}
use mathlib.Core.List.{List}
use Prim.Native.Nat.{ℕ, ◌+◌, ◌-◌, ◌*◌, ◌≤◌, ◌<◌}
use native.Mathlib.Omega.{arith}
use lib.ListN.{length, get_or, take, drop}
use Rattle.std.specs.List.{prefix_len}
use Rattle.grid.specs.declared.Grid.{Grid}
use Rattle.machine.specs.Calls.{is_stale}
use Rattle.machine.proofs.Places.{area, row_end}
use Rattle.marks.specs.Marks.{StaleRun}
use Rattle.marks.proofs.Counts.{run_of_front}
use Rattle.screens.specs.declared.frame.Frame.{Frame}
use Rattle.screens.specs.Frames.{Buffers}
use Rattle.screens.proofs.Screens.{sides}
use Rattle.stale_runs.specs.Tiles.{TileOn}

-- a frame's picture is small
pub record Small (f : Frame) : Type 0 where
  pub wide : f.picture.w ≤ 2048
  pub high : f.picture.h ≤ 2048
  pub few : f.picture.w * f.picture.h ≤ 4194304

pub frame_small : (f : Frame) → Small f
frame_small f =
    let wide : f.picture.w ≤ 2048 = omega (arith, f.wide, sides f.scale) in
    let high : f.picture.h ≤ 2048 = omega (arith, f.high, sides f.scale) in
    record { wide = wide; high = high; few = area f.picture.w f.picture.h wide high }

pub record Row (f : Frame) (t : Grid) (j m : ℕ) : Type 0 where
  pub along : t.x0 + t.cols ≤ f.picture.w
  pub down : t.y0 + j < f.picture.h
  pub small : Small f
  pub within : (t.y0 + j) * f.picture.w + f.picture.w ≤ f.picture.w * f.picture.h
  pub marked : f.picture.w * f.picture.h ≤ m

pub row_of : (f : Frame) (t : Grid) (j : ℕ) {o m : ℕ} → TileOn f.scale f.picture.w f.picture.h t → j < t.rows → Buffers f o m → Row f t j m
row_of f t j on l b =
    let down : t.y0 + j < f.picture.h = omega (arith, on.down, l) in
    record {
      along = on.along;
      down = down;
      small = frame_small f;
      within = row_end f.picture.w f.picture.h (t.y0 + j) down;
      marked = b.for_marks;
    }

-- the stale blocks side by side from column i on, as many as stand at the front of the row's rest
pub run_at : (f : Frame) (t : Grid) (j i : ℕ) {o n : ℕ} {k : ℕ} {m : List ℕ} → TileOn f.scale f.picture.w f.picture.h t → j < t.rows → Buffers f o k
    → length m ≡ k → i < t.cols → (get_or m ((t.y0 + j) * f.picture.w + t.x0 + i) 0 ≡ 0 → ⊥)
    → n ≡ prefix_len is_stale (take ((t.y0 + j) * f.picture.w + t.x0 + t.cols - ((t.y0 + j) * f.picture.w + t.x0 + i))
    (drop ((t.y0 + j) * f.picture.w + t.x0 + i) m)) → StaleRun ((t.y0 + j) * f.picture.w + t.x0 + i) (t.cols - i) m n
run_at f t j i {o} {n} {k} {m} on l b e h stale q =
    let r = row_of f t j on l b in
    let at : ℕ = (t.y0 + j) * f.picture.w + t.x0 + i in
    let most : (t.y0 + j) * f.picture.w + t.x0 + t.cols - at ≡ t.cols - i = omega arith in
    subst (StaleRun at (t.cols - i) m) (sym (q ∙ ap (λ (l : ℕ). prefix_len is_stale (take l (drop at m))) most))
    (run_of_front at (t.cols - i) m (omega (arith, r, e)) (omega arith) stale)
