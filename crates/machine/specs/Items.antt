-- What the parts of a paint and of a paint list find and leave, for the contracts of inner functions. Definitions only.
use Rattle.std.specs.Prelude.{◌≡◌, List, [], ◌∷◌, ℕ}
use Rattle.header.specs.declared.Header.{Header}
use Rattle.paints.specs.declared.Paint.{Paint}
use Rattle.machine.specs.Machine.{or_else}
use Rattle.machine.specs.Screen.{Screen}
use Rattle.machine.specs.Calls.{refusal_word, paint_end, items_end}

-- the number of the first item that is refused, 0 for none, each held to the picture as it stands when the call begins;
-- `proofs/Turns.antt` shows that this is what a single paint would find at the item's turn
abbrev pub refusal_items : Header → List ℕ → List Paint → ℕ
refusal_items header picture [] = 0
refusal_items header picture (i ∷ is) =
    or_else (refusal_word header picture i.column i.row i.word) (refusal_items header picture is)

module _ (S : Screen) (header : Header) (picture marks : List ℕ) where
  -- of a paint that is not refused: what it leaves in picture and marks, and whether it changed the word
  abbrev pub StoresWord : ℕ → ℕ → ℕ → List ℕ → List ℕ → ℕ → Type 0
  StoresWord column row word picture' marks' changed =
      let end = paint_end S header picture marks column row word in
      (picture' ≡ end.picture) × ((marks' ≡ end.marks) × (changed ≡ end.changed))

  -- of items that are not refused: what they leave
  abbrev pub StoresItems : List Paint → List ℕ → List ℕ → Type 0
  StoresItems items picture' marks' =
      let end = items_end S header items picture marks in
      (picture' ≡ end.picture) × (marks' ≡ end.marks)
