-- What is claimed of single registers: the flags bit by bit, and when the line is 1. Definitions only.
use Rattle.std.specs.Prelude.{◌≡◌, ℕ, ◌-◌, ◌/◌, ◌%◌, ◌^◌, ◌<◌, min}
use Rattle.registers.specs.Registers.{cleared, raised, line_of}

-- bit k of a byte
abbrev pub bit : ℕ → ℕ → ℕ
bit k n = n / 2 ^ k % 2

pub record RegisterLaws : Type 0 where
  -- v written to the flags: a bit is as it was where v has a 0 there, and 0 where v has a 1
  pub cleared_bit : (f v : ℕ) → v < 256 → (k : ℕ) → k < 8 → bit k (cleared f v) ≡ min (bit k f) (1 - bit k v)
  -- a refresh that raises a flag raises bit 0, and the others stay
  pub raised_bit : (f : ℕ) → (bit 0 (raised f) ≡ 1) × ((k : ℕ) → 0 < k → k < 8 → bit k (raised f) ≡ bit k f)
  -- the line is 0 or 1; where flags and mask share a bit it is 1, and where it is 1 they share one
  pub line_shared : (f m k : ℕ) → k < 8 → bit k f ≡ 1 → bit k m ≡ 1 → line_of f m ≡ 1
  pub line_apart : (f m : ℕ) → f < 256 → m < 256 → ((k : ℕ) → k < 8 → min (bit k f) (bit k m) ≡ 0) → line_of f m ≡ 0
