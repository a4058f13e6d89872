-- Every word of what is enlarged is a word of the picture, and of the replaced picture an entry of the palette. Assumes nothing.
use mathlib.Core.Path.{◌≡◌, sym, ap, ◌∙◌}
use mathlib.Core.List.{List}
use Prim.Native.Nat.{ℕ, ◌+◌, ◌*◌, ◌/◌, ◌%◌, ◌<◌}
use native.Mathlib.Nat.{mul_comm, zero-add}
use native.Mathlib.Omega.{arith}
use lib.ListN.{length, get_or}
use Rattle.picture.specs.Picture.{words}
use Rattle.picture.specs.Fill.{put, get_or_put, within}
use Rattle.clarity.specs.declared.Clarity.{Clarity}
use Rattle.block.specs.Block.{block_of}
use Rattle.block.specs.Claims.{PixelOf}
use Rattle.block.proofs.Theorem.{block_laws}
use Rattle.enlarged.specs.Whole.{scale_of}
use Rattle.enlarged.specs.Laws.{scale_block, scale_length}
use Rattle.whole.proofs.Sizes.{nine_words}
use Rattle.palette.specs.Palette.{replaced_of}
use Rattle.palette.proofs.Laws.{nearest_first, replaced_word}
use Rattle.whole_palette.specs.Claims.{EntryOf}
use Rattle.whole_palette.proofs.Replaced.{Ready}

-- ---- a word of a picture enlarged three times is one of the picture's
module _ (q : Clarity) (w h : ℕ) (f : ℕ → ℕ → ℕ) (column row : ℕ) (on_x : column < 3 * w) (on_y : row < 3 * h) where
  word_of_block : get_or (scale_of q w h f) (row * (3 * w) + column) 0
      ≡ get_or (block_of q w h f (column / 3) (row / 3)) (3 * (row % 3) + column % 3) 0
  word_of_block =
      let x : column ≡ 3 * (column / 3) + column % 3 = omega arith in
      let y : row ≡ 3 * (row / 3) + row % 3 = omega arith in
      ap (λ (i : ℕ). get_or (scale_of q w h f) (i * (3 * w) + column) 0) y
      ∙ ap (λ (i : ℕ). get_or (scale_of q w h f) ((3 * (row / 3) + row % 3) * (3 * w) + i) 0) x
      ∙ scale_block q w h f (column / 3) (row / 3) (row % 3) (column % 3) (omega arith) (omega arith) (omega arith) (omega arith)

  pub scaled_pixel : PixelOf w h f (get_or (scale_of q w h f) (row * (3 * w) + column) 0)
  scaled_pixel =
      let m = block_laws.own_words q w h f (column / 3) (row / 3) (omega arith) (omega arith) (3 * (row % 3) + column % 3) (omega arith) in
      record { column = m.column; row = m.row; on_x = m.on_x; on_y = m.on_y; is = word_of_block ∙ m.is }

  -- it stands at its place in the output
  pub written_word : (o : List ℕ) → get_or (put 0 (scale_of q w h f) o) (row * (3 * w) + column) 0 ≡ get_or (scale_of q w h f) (row * (3 * w) + column) 0
  written_word o =
      let i = row * (3 * w) + column in
      let inside : i < length (scale_of q w h f) =
      omega (arith, within row (3 * h) column (3 * w) on_y on_x, mul_comm (3 * h) (3 * w), nine_words w h, scale_length q w h f) in
      ap (λ (j : ℕ). get_or (put 0 (scale_of q w h f) o) j 0) (sym (zero-add i)) ∙ get_or_put 0 (scale_of q w h f) o i 0 inside (omega arith)

-- ---- a word of the replaced picture is an entry
module _ (w h : ℕ) (p palette x : List ℕ) (k : Ready (w * h) p palette x) where
  replaced_entry : (word : ℕ) → PixelOf w h (words w (replaced_of palette (w * h) p)) word → EntryOf palette word
  replaced_entry word m =
      let i = m.row * w + m.column in
      let inside : i < w * h = omega (arith, within m.row h m.column w m.on_y m.on_x, mul_comm h w) in
      let n = nearest_first palette (get_or p i 0) k.entry in
      record { place = n.place; inside = n.inside; is = m.is ∙ replaced_word palette p (w * h) i k.read inside ∙ sym n.entry }

  module _ (q : Clarity) (o : List ℕ) where
    abbrev picture : ℕ → ℕ → ℕ
    picture = words w (replaced_of palette (w * h) p)

    pub entries_three : (column row : ℕ) → column < 3 * w → row < 3 * h
        → EntryOf palette (get_or (put 0 (scale_of q w h picture) o) (row * (3 * w) + column) 0)
    entries_three column row a b =
        let e = replaced_entry _ (scaled_pixel q w h picture column row a b) in
        record { place = e.place; inside = e.inside; is = written_word q w h picture column row a b o ∙ e.is }

    -- by the first result, of which the second enlargement is
    abbrev first : ℕ → ℕ → ℕ
    first = words (3 * w) (scale_of q w h picture)

    pub entries_nine : (column row : ℕ) → column < 9 * w → row < 9 * h
        → EntryOf palette (get_or (put 0 (scale_of q (3 * w) (3 * h) first) o) (row * (9 * w) + column) 0)
    entries_nine column row a b =
        let m = scaled_pixel q (3 * w) (3 * h) first column row (omega arith) (omega arith) in
        let e = replaced_entry _ (scaled_pixel q w h picture m.column m.row m.on_x m.on_y) in
        let nine : 9 * w ≡ 3 * (3 * w) = omega arith in
        record {
          place = e.place;
          inside = e.inside;
          is =
              ap (λ (i : ℕ). get_or (put 0 (scale_of q (3 * w) (3 * h) first) o) (row * i + column) 0) nine
              ∙ written_word q (3 * w) (3 * h) first column row (omega arith) (omega arith) o
              ∙ m.is
              ∙ e.is;
        }
