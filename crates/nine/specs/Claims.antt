-- What holds of a nine-times block, for every size and every setting, lawful or not. Definitions only; `proofs/Nine.antt` proves it.
use Rattle.std.specs.Prelude.{◌≡◌, List, ℕ, ◌<◌, get_or}
use Rattle.picture.specs.Picture.{words}
use Rattle.picture.specs.Local.{Agree}
use Rattle.clarity.specs.declared.Clarity.{Clarity}
use Rattle.block.specs.Claims.{PixelOf}
use Rattle.nine.specs.Nine.{draw9}

pub record BlockLaws9 : Type 0 where
  -- every word is one of the picture's: no two pixels are blended
  pub own_words9 : (q : Clarity) (w h : ℕ) (p : List ℕ) (bx by : ℕ) → bx < w → by < h
      → (k : ℕ) → k < 81 → PixelOf w h (words w p) (get_or (draw9 q w h p bx by) k 0)
  -- it depends on no pixel outside columns bx - 8 to bx + 8 and rows by - 8 to by + 7
  pub box9_local : (q : Clarity) (w h : ℕ) (p r : List ℕ) (bx by : ℕ) → bx < w → by < h → Agree w h bx by 8 8 8 7 (words w p) (words w r)
      → draw9 q w h p bx by ≡ draw9 q w h r bx by
