-- What a source shows of a tile, by the screen. Assumes nothing.
use mathlib.Core.Path.{◌≡◌, sym, ap₂, subst}
use mathlib.Core.Bool.{Bool, false, cond}
use mathlib.Core.List.{List}
use Prim.Native.Nat.{ℕ, ◌+◌, ◌*◌}
use native.Mathlib.Nat.{one-mul}
use native.Mathlib.Omega.{arith}
use lib.Dec.{eqb}
use borrow.Author.Tests.{ne_eqb}
use Rattle.picture.specs.Picture.{words}
use Rattle.grid.specs.declared.Grid.{Grid}
use Rattle.block.specs.Block.{block_of}
use Rattle.nine.specs.Nine.{enlarged}
use Rattle.screens.specs.declared.frame.Frame.{Frame}
use Rattle.stale_runs.specs.declared.Source.{Source}
use Rattle.stale_runs.specs.Tiles.{TileOn}
use Rattle.stale_runs.proofs.Rows.{frame_small}
use Rattle.stale_runs.proofs.Sizes.{columns_few, rows_few}
use Rattle.tiles.specs.Shows.{Shows, ShowsTile}

-- by the test of the screen's number
pub shown : (f : Frame) (t : Grid) (s : Source) (b : Bool) → eqb f.scale 9 ≡ b
    → (let w = f.picture.w in
    let h = f.picture.h in
    let at = words w f.picture.words.now in
    Shows f.clarity (cond b 3 1) (cond b (block_of f.clarity (3 * w) (3 * h) (enlarged f.clarity w h at)) (block_of f.clarity w h at)) t s)
    → ShowsTile f t s
shown f t s b e k =
    let w = f.picture.w in
    let h = f.picture.h in
    let at = words w f.picture.words.now in
    subst (λ (b : Bool). Shows f.clarity (cond b 3 1)
    (cond b (block_of f.clarity (3 * w) (3 * h) (enlarged f.clarity w h at)) (block_of f.clarity w h at)) t s) (sym e) k

-- the picture shows a tile of the three-times screen
pub shown_three : (f : Frame) (t : Grid) → (f.scale ≡ 9 → ⊥) → TileOn f.scale f.picture.w f.picture.h t
    → ShowsTile f t (record { picture = f.picture; x = t.x0; y = t.y0 })
shown_three f t e on =
    let small = frame_small f in
    let at = words f.picture.w f.picture.words.now in
    shown f t (record { picture = f.picture; x = t.x0; y = t.y0 }) false (ne_eqb f.scale 9 e) (record {
      held = record {
        along = omega (arith, on.along);
        down = omega (arith, on.down);
        some_columns = omega (arith, on.some_columns);
        few_columns = omega (arith, on.few_columns, columns_few f.scale);
        some_rows = omega (arith, on.some_rows);
        few_rows = omega (arith, on.few_rows, rows_few f.scale);
        wide = small.wide;
        high = small.high;
      };
      each = λ i j hi hj. ap₂ {C = List ℕ} (λ (x y : ℕ). block_of f.clarity f.picture.w f.picture.h at (x + i) (y + j))
          (sym (one-mul t.x0)) (sym (one-mul t.y0));
    })
