-- What the loop keeps.
use mathlib.Core.Path.{◌≡◌}
use lib.ListN.{drop}
use Rattle.machine.specs.Items.{refusal_items}
use Rattle.paint_refusals.proofs.check_items.Given as goal

-- the items so far are not refused, so those from here on decide
abbrev pub invariant-loop-item : goal.invariant-loop-item
invariant-loop-item l = refusal_items l.header l.picture (drop l.item-index l.items) ≡ refusal_items l.header l.picture l.items
