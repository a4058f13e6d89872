-- The three-times screen: blocks of 3 by 3 words as sections 1 to 6 draw them, and the cross of blocks that a paint names. Definitions
-- only.
use Rattle.std.specs.Prelude.{Bool, ◌&&◌, ◌||◌, List, ℕ, ◌+◌, ◌-◌}
use Rattle.picture.specs.Picture.{words}
use Rattle.clarity.specs.declared.Clarity.{Clarity}
use Rattle.block.specs.Block.{block_of}
use Rattle.machine.specs.Screen.{Screen}
use Rattle.marks.specs.Marks.{between}

-- section 7: the blocks that a changing paint at (column, row) names, before the picture's borders: bx within 6 of column and by from
-- row - 2 to row + 3, or bx within 3 and by from row - 5 to row + 6; a difference below 0 is 0
abbrev pub cross3 : ℕ → ℕ → ℕ → ℕ → Bool
cross3 column row bx by =
    (between (column - 6) (column + 6) bx && between (row - 2) (row + 3) by)
    || (between (column - 3) (column + 3) bx && between (row - 5) (row + 6) by)

-- the block of 9 words, drawn from the picture's words at a setting
abbrev pub draw3 : Clarity → ℕ → ℕ → List ℕ → ℕ → ℕ → List ℕ
draw3 clarity w h picture bx by = block_of clarity w h (words w picture) bx by

abbrev pub screen3 : Screen
screen3 = record { scale = 3; side = 2048; touches = cross3; draw = draw3 }
