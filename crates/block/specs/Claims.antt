-- What sections 3 and 6 say of a block, for every size of picture, and the table. Definitions only; `proofs/Theorem.antt` proves it.
use Rattle.std.specs.Prelude.{◌≡◌, ℕ, ◌+◌, ◌-◌, ◌<◌, length, get_or}
use Rattle.picture.specs.Local.{Agree}
use Rattle.picture.specs.Span.{Span}
use Rattle.clarity.specs.declared.Clarity.{Clarity}
use Rattle.clarity.specs.Clarity.{plainly}
use Rattle.block.specs.Block.{block_of}
use Rattle.block.specs.Table.{table, entry}

-- a word of the picture f of w by h
pub record PixelOf (w h : ℕ) (f : ℕ → ℕ → ℕ) (word : ℕ) : Type 0 where
  pub column : ℕ
  pub row : ℕ
  pub on_x : column < w
  pub on_y : row < h
  pub is : word ≡ f column row

pub record BlockLaws : Type 0 where
  -- a block has nine words, and the middle word is the pixel
  pub block_length : (q : Clarity) (w h : ℕ) (f : ℕ → ℕ → ℕ) (x y : ℕ) → length (block_of q w h f x y) ≡ 9
  pub middle_word : (q : Clarity) (w h : ℕ) (f : ℕ → ℕ → ℕ) (x y : ℕ) → x < w → y < h → get_or (block_of q w h f x y) 4 0 ≡ f x y
  -- every word is one of the picture's: no two pixels are blended
  pub own_words : (q : Clarity) (w h : ℕ) (f : ℕ → ℕ → ℕ) (x y : ℕ) → x < w → y < h
      → (k : ℕ) → k < 9 → PixelOf w h f (get_or (block_of q w h f x y) k 0)
  -- it depends on no pixel but those of columns bx - 6 to bx + 6 and rows by - 3 to by + 2, and those of columns bx - 3 to bx + 3 and rows
  -- by - 6 to by + 5, at every setting of clarity, lawful or not
  pub cross : (q : Clarity) (w h : ℕ) (f g : ℕ → ℕ → ℕ) (bx by : ℕ) → bx < w → by < h
      → Agree w h bx by 6 6 3 2 f g → Agree w h bx by 3 3 6 5 f g → block_of q w h f bx by ≡ block_of q w h g bx by
  -- a window of cols by rows pixels from (x0, y0) on that reaches six columns to each side of (bx, by), six rows up and five down, or ends
  -- where the picture does, has the picture's block there
  pub in_window : (q : Clarity) (w h : ℕ) (f : ℕ → ℕ → ℕ) (x0 y0 cols rows : ℕ) (g : ℕ → ℕ → ℕ) (bx by : ℕ) → bx < w → by < h
      → Span w x0 cols bx 6 6 → Span h y0 rows by 6 5 → ((x y : ℕ) → x < cols → y < rows → g x y ≡ f (x0 + x) (y0 + y))
      → block_of q cols rows g (bx - x0) (by - y0) ≡ block_of q w h f bx by
  -- settings that count as equal, as the standard and the threshold 0.5 do, draw the same block
  pub block_settings : (c d : Clarity) → plainly c ≡ plainly d → (w h : ℕ) (f : ℕ → ℕ → ℕ) (x y : ℕ) → block_of c w h f x y ≡ block_of d w h f x y

-- T1 to T13
pub record Tabled : Type 0 where
  pub thirteen : length table ≡ 13
  pub tabled : (i : ℕ) → (get_or table i (entry 0 0)).given ≡ (get_or table i (entry 0 0)).tabled
