-- The marks: which of some blocks are stale, the blocks of a run, runs and parts of the picture without a stale block, and the box of
-- blocks round a position. Definitions only.
use Rattle.std.specs.Prelude.{◌≡◌, Bool, true, ◌&&◌, List, map, ℕ, ◌+◌, ◌-◌, ◌*◌, ◌/◌, ◌%◌, ◌≤◌, ◌<◌, leb, ltb, length, get_or, replicate}
use Rattle.std.proofs.Math.Seq.{slice}
use Rattle.machine.specs.Lists.{table, first_from}
use Rattle.machine.specs.Calls.{is_stale}

-- the indices lo to hi - 1
abbrev pub run : ℕ → ℕ → ℕ → Bool
run lo hi i = leb lo i && ltb i hi

-- which of the blocks lo to hi - 1 are stale, by their marks
abbrev pub stale_in : ℕ → ℕ → List ℕ → List Bool
stale_in lo hi marks = map is_stale (slice lo hi marks)

-- the first n of them that are stale
abbrev pub chosen : ℕ → ℕ → ℕ → List ℕ → List ℕ
chosen lo hi n marks = first_from lo n (stale_in lo hi marks)

-- the blocks b to b + k - 1
abbrev pub blocks_from : ℕ → ℕ → List ℕ
blocks_from b k = table k (λ j. b + j)

-- r marks from i on are stale, at least one and at most `most`
pub record StaleRun (i most : ℕ) (marks : List ℕ) (r : ℕ) : Type 0 where
  pub some : 0 < r
  pub few : r ≤ most
  pub all_stale : stale_in i (i + r) marks ≡ replicate r true

-- none of the blocks lo to hi - 1 is stale
abbrev pub ClearRun : ℕ → ℕ → List ℕ → Type 0
ClearRun lo hi marks = (b : ℕ) → lo ≤ b → b < hi → get_or marks b 0 ≡ 0

-- r is from lo to hi, and no block from lo to r - 1 is stale
pub record ClearUpTo (lo hi : ℕ) (marks : List ℕ) (r : ℕ) : Type 0 where
  pub from : lo ≤ r
  pub to : r ≤ hi
  pub clear : ClearRun lo r marks

-- r is from lo to hi, and no block from r to hi - 1 is stale
pub record ClearFrom (lo hi : ℕ) (marks : List ℕ) (r : ℕ) : Type 0 where
  pub from : lo ≤ r
  pub to : r ≤ hi
  pub clear : ClearRun r hi marks

-- block b lies in columns x to x' - 1 and rows y to y' - 1 of a picture of w columns
pub record Inside (w x x' y y' b : ℕ) : Type 0 where
  pub left : x ≤ b % w
  pub right : b % w < x'
  pub above : y ≤ b / w
  pub below : b / w < y'

-- no block there is stale
abbrev pub Clear : ℕ → ℕ → ℕ → ℕ → ℕ → List ℕ → Type 0
Clear w x x' y y' marks = (b : ℕ) → Inside w x x' y y' b → get_or marks b 0 ≡ 0

-- columns x to x' - 1 and rows y to y' - 1, of a picture of at most 2,048 a side, lie within the marks
pub record Part (w x x' y y' : ℕ) (marks : List ℕ) : Type 0 where
  pub columns : x ≤ x'
  pub along : x' ≤ w
  pub wide : w ≤ 2048
  pub rows : y ≤ y'
  pub high : y' ≤ 2048
  pub for_marks : y' * w ≤ length marks

-- x is from lo to hi
abbrev pub between : ℕ → ℕ → ℕ → Bool
between lo hi x = leb lo x && leb x hi

-- block b lies inside the picture, at most `side` columns beside (column, row), `up` rows above
-- it and `down` below; a difference below 0 is 0
abbrev pub boxed : ℕ → ℕ → ℕ → ℕ → ℕ → ℕ → ℕ → ℕ → Bool
boxed w h column row side up down b =
    ltb b (w * h) && (between (column - side) (column + side) (b % w) && between (row - up) (row + down) (b / w))
