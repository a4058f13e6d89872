-- What the loop keeps.
use mathlib.Core.Path.{◌≡◌}
use lib.ListN.{length, take}
use Rattle.text.specs.Text.{spaced}
use Rattle.text.specs.Writes.{Writes}
use Rattle.text.proofs.Text.put_row.Given as goal

abbrev pub invariant-loop-i : goal.invariant-loop-i
invariant-loop-i l = record {
  same : l.self.bytes.ghost_name ≡ l.initial.self.bytes.ghost_name;
  long : length l.self.bytes.now ≡ length l.initial.self.bytes.now;
  written : Writes l.initial.self.at (spaced (take l.i l.words)) l.initial.self.bytes.now l.self.bytes.now l.self.at;
}
