-- What the loop keeps.
use mathlib.Core.Path.{◌≡◌}
use lib.ListN.{length, drop}
use Rattle.machine.specs.Calls.{items_end}
use Rattle.machine.proofs.ListEnds.{Rest}
use Rattle.screens.specs.Screens.{screen_of}
use Rattle.painted.proofs.store.store_items.Given as goal

-- what the items from here on are to leave is what all of them leave, and none of them is refused at its turn
abbrev pub invariant-loop-item : goal.invariant-loop-item
invariant-loop-item l =
    (length l.picture ≡ length l.initial.picture) × ((length l.marks ≡ length l.initial.marks)
    × Rest (screen_of l.scale) l.header (drop l.item-index l.items) l.picture l.marks
    (items_end (screen_of l.scale) l.header l.items l.initial.picture l.initial.marks).picture
    (items_end (screen_of l.scale) l.header l.items l.initial.picture l.initial.marks).marks)
