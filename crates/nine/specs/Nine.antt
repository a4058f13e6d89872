-- The nine-times screen: blocks of 9 by 9 words as sections 1 to 6 draw them twice, the second time over the whole first result, and the
-- box of blocks that a paint names. Definitions only.
use Rattle.std.specs.Prelude.{Bool, ◌&&◌, List, ℕ, ◌+◌, ◌-◌, ◌*◌, ◌/◌, ◌%◌, get_or}
use Rattle.picture.specs.Picture.{words}
use Rattle.clarity.specs.declared.Clarity.{Clarity}
use Rattle.block.specs.Block.{block_of}
use Rattle.machine.specs.Lists.{table}
use Rattle.machine.specs.Screen.{Screen}
use Rattle.marks.specs.Marks.{between}

-- sections 1 to 6 over a whole picture f of w by h: the word of column x and row y of the 3w by 3h that come out, which is word
-- 3 * (y % 3) + x % 3 of block (x / 3, y / 3)
unfoldable pub enlarged : Clarity → ℕ → ℕ → (ℕ → ℕ → ℕ) → ℕ → ℕ → ℕ
enlarged q w h f x y = get_or (block_of q w h f (x / 3) (y / 3)) (3 * (y % 3) + x % 3) 0

-- the same twice, the second time over the first result, of 3w by 3h, at the same setting: the word of column x and row y of 9w by 9h
unfoldable pub enlarged_twice : Clarity → ℕ → ℕ → (ℕ → ℕ → ℕ) → ℕ → ℕ → ℕ
enlarged_twice q w h f = enlarged q (3 * w) (3 * h) (enlarged q w h f)

-- the block of 81 words, row by row, drawn from the picture's words at a setting
abbrev pub draw9 : Clarity → ℕ → ℕ → List ℕ → ℕ → ℕ → List ℕ
draw9 clarity w h picture bx by = table 81 (λ k. enlarged_twice clarity w h (words w picture) (9 * bx + k % 9) (9 * by + k / 9))

-- the blocks that a changing paint at (column, row) names, before the picture's borders: bx from column - 8 to column + 8 and by from
-- row - 7 to row + 8; a difference below 0 is 0
abbrev pub box9 : ℕ → ℕ → ℕ → ℕ → Bool
box9 column row bx by = between (column - 8) (column + 8) bx && between (row - 7) (row + 8) by

abbrev pub screen9 : Screen
screen9 = record { scale = 9; side = 682; touches = box9; draw = draw9 }
