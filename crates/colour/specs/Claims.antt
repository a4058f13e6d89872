-- What holds of N for all words. Definitions only; `proofs/Theorem.antt` proves it.
use Rattle.std.specs.Prelude.{◌≡◌, ◌↔◌, ℕ, ◌%◌, ◌^◌, ◌≤◌, ℤ, pos, ◌+ℤ◌, ◌-ℤ◌, ◌*ℤ◌}
use Rattle.channels.specs.Channels.{red_of, green_of, blue_of}
use Rattle.colour.specs.Nearness.{nearness_of}

-- the square of the difference of two channels, which may be below 0
abbrev pub square_z : ℕ → ℕ → ℤ
square_z a b = (pos a -ℤ pos b) *ℤ (pos a -ℤ pos b)

pub record NearnessLaws : Type 0 where
  -- it is request 8's number with every difference taken with its sign, over the integers
  pub signed : (p q : ℕ)
      → pos (nearness_of p q)
      ≡ (pos 1020 +ℤ pos (red_of p) +ℤ pos (red_of q)) *ℤ square_z (red_of p) (red_of q)
      +ℤ pos 2040 *ℤ square_z (green_of p) (green_of q)
      +ℤ (pos 1530 -ℤ pos (red_of p) -ℤ pos (red_of q)) *ℤ square_z (blue_of p) (blue_of q)
  -- it is at most 298,464,750, which black and white have
  pub at_most : (p q : ℕ) → nearness_of p q ≤ 298464750
  pub reached : nearness_of 0x000000 0xffffff ≡ 298464750
  -- it is symmetric, and 0 exactly where the low 24 bits agree
  pub symmetric : (p q : ℕ) → nearness_of p q ≡ nearness_of q p
  pub zero_where : (p q : ℕ) → (nearness_of p q ≡ 0) ↔ (p % 2 ^ 24 ≡ q % 2 ^ 24)
