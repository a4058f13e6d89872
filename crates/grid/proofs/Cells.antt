-- The chunks of a rectangle of records: those of a row, one a pixel, and those of the rectangle, one a row. Definitions only.
use Rattle.std.proofs.Common.{ℕ, ◌+◌, List}
use Rattle.grid.specs.declared.Grid.{Grid}
use Rattle.grid.specs.Grid.{row_of}

module _ {R E : Type 0} (elements : R → List E) (g : Grid) (f : ℕ → ℕ → R) where
  abbrev pub cells : ℕ → ℕ → List E
  cells y i = elements (f (g.x0 + i) y)

  abbrev pub lines : ℕ → List E
  lines j = row_of elements g f (g.y0 + j)
