-- What the loop keeps.
use mathlib.Core.List.{List}
use mathlib.Core.Path.{◌≡◌}
use lib.ListN.{length}
use Prim.Native.Nat.{ℕ}
use Rattle.picture.specs.Fill.{flat}
use Rattle.text.specs.Text.{spaced, line, row}
use Rattle.text.specs.Writes.{Writes}
use Rattle.text.proofs.Text.put_rows.Given as goal

-- each row's line
abbrev pub lines : ℕ → List ℕ → ℕ → List ℕ
lines w words y = line (spaced (row w words y))

abbrev pub invariant-loop-y : goal.invariant-loop-y
invariant-loop-y l = record {
  same : l.self.bytes.ghost_name ≡ l.initial.self.bytes.ghost_name;
  long : length l.self.bytes.now ≡ length l.initial.self.bytes.now;
  written : Writes l.initial.self.at (flat l.y (lines l.w l.words)) l.initial.self.bytes.now l.self.bytes.now l.self.at;
}
