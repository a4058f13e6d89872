-- What the loop keeps.
use mathlib.Core.Path.{◌≡◌}
use lib.ListN.{length}
use Rattle.text.proofs.Texts.{Spelling}
use Rattle.text.proofs.Text.put_digits.Given as goal

abbrev pub invariant-loop-i : goal.invariant-loop-i
invariant-loop-i l = record {
  same : l.self.bytes.ghost_name ≡ l.initial.self.bytes.ghost_name;
  long : length l.self.bytes.now ≡ length l.initial.self.bytes.now;
  place : l.self.at ≡ l.initial.self.at;
  spelled : Spelling l.base l.k l.n l.initial.self.at l.i l.rest l.initial.self.bytes.now l.self.bytes.now;
}
