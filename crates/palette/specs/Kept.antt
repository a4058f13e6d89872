-- What `replace` keeps along the way. Definitions only; no public contract cites them.
use Rattle.std.specs.Prelude.{◌≡◌, List, ℕ, All}
use Rattle.palette.specs.Palette.{nearest_of}
use Rattle.palette.specs.declared.Slot.{Slot}

-- words, each with the entry nearest to it
abbrev pub Keeps : List ℕ → List Slot → Type 0
Keeps palette slots = All (λ s. s.entry ≡ nearest_of palette s.word) slots
