-- A run of a tile's blocks put by the last part of the tile's tags into the last part of the output, as the code computes their places: m
-- pixels of the source for a block's side, and the first word at `at`. Assumes nothing.
use mathlib.Core.Path.{◌≡◌, sym, ap, ap₂, ◌∙◌, subst}
use mathlib.Core.Bool.{Bool, true, false, cond}
use mathlib.Core.List.{List}
use Prim.Native.Nat.{ℕ, ◌+◌, ◌-◌, ◌*◌, ◌≤◌, ◌<◌}
use native.Mathlib.Omega.{arith}
use lib.Dec.{eqb}
use lib.ListN.{length, take, drop, length-drop}
use lib.Seq.{length-take-le}
use borrow.Rule.Slice.PartMut.{put_mid, mid_of}
use Rattle.picture.specs.Picture.{words}
use Rattle.grid.specs.Grid.{tags_at}
use Rattle.block.specs.Block.{block_from}
use Rattle.block.specs.Store.{put_rect, RectRoom}
use Rattle.block.specs.StoreLaws.{rect_same}
use Rattle.stored.specs.Room.{rect_blocks}
use Rattle.stored.proofs.Parts.{rect_from, tags_from, from_within, at_within, room_from}
use Rattle.machine.specs.Screen.{place}
use Rattle.machine.specs.Machine.{put_all}
use Rattle.marks.specs.Marks.{blocks_from}
use Rattle.screens.specs.declared.frame.Frame.{Frame}
use Rattle.screens.specs.Screens.{screen_of}
use Rattle.screens.specs.Frames.{Buffers}
use Rattle.stale_runs.specs.declared.TaggedTile.{TaggedTile}
use Rattle.stale_runs.specs.Tiles.{cells_of}
use Rattle.stale_runs.specs.Frames.{TileReady}
use Rattle.stale_runs.proofs.Runs.{small, run_room, run_stored}

-- what is left of a list from a place on
rest_long : (k : ℕ) (l : List ℕ) → length (take (length l - k) (drop k l)) ≡ length l - k
rest_long k l = length-take-le (length l - k) (drop k l) (omega (arith, length-drop k l))

cells_some : (b : Bool) → 0 < cond {A = ℕ} b 3 1
cells_some true = omega arith
cells_some false = omega arith

module _ (f : Frame) (g : TaggedTile) (i j n m at : ℕ) {o k : ℕ} (few : i + n ≤ g.grid.cols) (high : j < g.grid.rows) (ready : TileReady f g)
    (buffers : Buffers f o k) (em : m ≡ cells_of f.scale) (ea : at ≡ place (screen_of f.scale) f.picture.w (g.grid.x0 + i) (g.grid.y0 + j) 0) where
  -- where its tags start, and how many bytes a row of them has
  abbrev row : ℕ → ℕ
  row m = 4 * (m * g.grid.cols)

  abbrev start : ℕ → ℕ
  start m = m * j * row m + 4 * (m * i)

  abbrev Room : ℕ → ℕ → Type 0
  Room m at =
      RectRoom g.source.picture.w g.source.picture.h (g.source.x + m * i) (g.source.y + m * j) (m * n) m (start m) (row m)
      (length g.source.picture.words.now) (length g.tags.now) (3 * (m * f.picture.w)) at o

  room : Room m at
  room =
      let on = ready.0 in
      subst (λ (at : ℕ). Room m at) (sym ea) (subst (λ (m : ℕ). Room m (place (screen_of f.scale) f.picture.w (g.grid.x0 + i) (g.grid.y0 + j) 0)) (sym em)
      (run_room (eqb f.scale 9) f.clarity f.picture.w f.picture.h f.picture.words.now g.tags.now g.grid g.source ready.1 i j n few high o
      (small (eqb f.scale 9) f.wide on.few_columns on.few_rows few high) on.along on.down buffers.for_output))

  some : 0 < m
  some = omega (arith, em, cells_some (eqb f.scale 9))

  pub tags_within : start m ≤ length g.tags.now
  tags_within = from_within _ _ _ _ _ m (start m) (row m) _ (length g.tags.now) _ at o some room

  pub words_within : at ≤ o
  words_within = at_within _ _ _ _ _ m (start m) (row m) _ (length g.tags.now) _ at o some room

  pub run_fits : {o' : ℕ} → o' ≡ o - at
      → RectRoom g.source.picture.w g.source.picture.h (g.source.x + m * i) (g.source.y + m * j) (m * n) m 0 (row m)
      (g.source.picture.w * g.source.picture.h) (length (take (length g.tags.now - start m) (drop (start m) g.tags.now))) (3 * (m * f.picture.w)) 0 o'
  run_fits e =
      let r = room_from _ _ _ _ _ m (start m) (row m) _ (length g.tags.now) _ at o some room in
      record {
        along = r.along;
        down = r.down;
        picture = r.picture;
        tags = omega (arith, r.tags, rest_long (start m) g.tags.now);
        apart = r.apart;
        words = omega (arith, r.words, e);
        wide = r.wide;
        long = r.long;
      }

pub rest_words : (at : ℕ) (out : List ℕ) → length (mid_of at (length out - at) out) ≡ length out - at
rest_words at out = rest_long at out

module _ (f : Frame) (g : TaggedTile) (i j n m at : ℕ) {k : ℕ} (out put : List ℕ) (few : i + n ≤ g.grid.cols) (high : j < g.grid.rows)
    (ready : TileReady f g) (buffers : Buffers f (length out) k) (em : m ≡ cells_of f.scale)
    (ea : at ≡ place (screen_of f.scale) f.picture.w (g.grid.x0 + i) (g.grid.y0 + j) 0) where
  abbrev its_words : ℕ → ℕ → ℕ
  its_words = words g.source.picture.w g.source.picture.words.now

  abbrev from : ℕ → ℕ
  from m = m * j * (4 * (m * g.grid.cols)) + 4 * (m * i)

  -- what is stored, by the number of pixels and the place of the first word
  abbrev stored : ℕ → ℕ → List ℕ
  stored m at =
      put_rect (3 * (m * f.picture.w)) at (m * n) m (λ c r. block_from g.source.picture.w g.source.picture.h its_words
      (g.source.x + m * i + c) (g.source.y + m * j + r) (tags_at g.tags.now (from m + r * (4 * (m * g.grid.cols)) + c * 4))) out

  pub run_put : put ≡ put_rect (3 * (m * f.picture.w)) 0 (m * n) m (rect_blocks g.source.picture.w g.source.picture.h its_words
      (record { x0 = g.source.x + m * i; y0 = g.source.y + m * j; cols = m * n; rows = m })
      (take (length g.tags.now - from m) (drop (from m) g.tags.now)) (4 * (m * g.grid.cols))) (mid_of at (length out - at) out)
      → put_mid at (length out - at) out put
      ≡ put_all (screen_of f.scale) f.picture.w f.picture.h f.clarity (take (f.picture.w * f.picture.h) f.picture.words.now)
      (blocks_from ((g.grid.y0 + j) * f.picture.w + (g.grid.x0 + i)) n) out
  run_put e =
      let on = ready.0 in
      rect_from (3 * (m * f.picture.w)) (m * n) m at _ out put (words_within f g i j n m at few high ready buffers em ea) e
      ∙ rect_same (3 * (m * f.picture.w)) at (m * n) m _ _ out (λ c r hc hr.
      ap (block_from g.source.picture.w g.source.picture.h its_words (g.source.x + m * i + c) (g.source.y + m * j + r))
      (tags_from g.tags.now (from m) (r * (4 * (m * g.grid.cols)) + c * 4) ∙ ap (tags_at g.tags.now) (omega arith)))
      ∙ ap₂ stored em ea
      ∙ run_stored (eqb f.scale 9) f.clarity f.picture.w f.picture.h f.picture.words.now g.tags.now g.grid g.source ready.1 i j n few high out
      on.along on.down buffers.for_output
