-- A screen: how many words a block has, how large a picture may be, which blocks a paint names and how a block is drawn at a setting of
-- clarity. The machine, the calls and demand 3 are stated for every screen; `three/specs/Three.antt` has the three-times screen,
-- `nine/specs/Nine.antt` the nine-times one. Definitions only.
use Rattle.std.specs.Prelude.{◌≡◌, Bool, true, List, ℕ, ◌+◌, ◌*◌, ◌/◌, ◌%◌, ◌<◌, length, get_or}
use Rattle.clarity.specs.declared.Clarity.{Clarity}
use Rattle.clarity.specs.Clarity.{plainly}

pub record Screen : Type 0 where
  -- a block has scale rows of scale words
  pub scale : ℕ
  -- the limit of w and of h
  pub side : ℕ
  -- touches column row bx by: a changing paint at (column, row) makes block (bx, by) stale
  pub touches : ℕ → ℕ → ℕ → ℕ → Bool
  -- draw clarity w h picture bx by: the words of block (bx, by), row by row
  pub draw : Clarity → ℕ → ℕ → List ℕ → ℕ → ℕ → List ℕ

-- how many words a block has
abbrev pub block_words : Screen → ℕ
block_words S = S.scale * S.scale

-- where word k of block (bx, by) lies in the output of a picture of w columns: scale * h rows of scale * w words
abbrev pub place : Screen → ℕ → ℕ → ℕ → ℕ → ℕ
place S w bx by k = (S.scale * by + k / S.scale) * (S.scale * w) + (S.scale * bx + k % S.scale)

-- two pictures agree at every position whose paint names block (bx, by)
abbrev pub AgreeAround : Screen → ℕ → ℕ → List ℕ → List ℕ → ℕ → ℕ → Type 0
AgreeAround S w h p q bx by =
    (column row : ℕ) → column < w → row < h → S.touches column row bx by ≡ true → get_or p (row * w + column) 0 ≡ get_or q (row * w + column) 0

-- what demand 3 asks of a screen
pub record Lawful (S : Screen) : Type 0 where
  pub scaled : 0 < S.scale
  pub draw_length : (c : Clarity) (w h : ℕ) (p : List ℕ) (bx by : ℕ) → length (S.draw c w h p bx by) ≡ block_words S
  -- the locality of section 6, at every setting: a block depends on no pixel but those whose paint names it
  pub local : (c : Clarity) (w h : ℕ) (p q : List ℕ) (bx by : ℕ) → length p ≡ w * h → length q ≡ w * h → bx < w → by < h
      → AgreeAround S w h p q bx by → S.draw c w h p bx by ≡ S.draw c w h q bx by
  -- settings that count as equal draw the same
  pub settings : (c d : Clarity) → plainly c ≡ plainly d → (w h : ℕ) (p : List ℕ) (bx by : ℕ) → S.draw c w h p bx by ≡ S.draw d w h p bx by
