-- What holds of the settings: which of them count as equal, and what a C caller's numbers stand for. `proofs/Claims.antt` proves it.
-- Definitions only.
use Rattle.std.specs.Prelude.{◌≡◌, ◌⊎◌, ℕ, Float}
use Rattle.std.specs.Float.{binary32}
use Rattle.std.specs.Float.Ieee.{of_bits}
use Rattle.single.specs.Single.{f½}
use Rattle.clarity.specs.declared.Clarity.{Clarity}
use Rattle.clarity.specs.declared.Clarity.TheVariants.{Standard, Threshold}
use Rattle.clarity.specs.Clarity.{lawful_of, plainly, setting_of, clarity_of}

-- the standard, and the threshold 0.5
abbrev pub Half : Clarity → Clarity → Type 0
Half c d = (c ≡ Standard) × (d ≡ Threshold f½)

-- what the rule takes for equal: settings of one kind with the same T, which are one setting; and the standard and the threshold 0.5
abbrev pub Equal : Clarity → Clarity → Type 0
Equal c d = (c ≡ d) ⊎ (Half c d ⊎ Half d c)

pub record Settings : Type 0 where
  -- the standard is the threshold 0.5, and the two count as equal
  pub standard_half : plainly Standard ≡ plainly (Threshold f½)
  -- all others count as equal only where they are of one kind and have the same T
  pub others : (c d : Clarity) → plainly c ≡ plainly d → Equal c d
  -- a header's numbers are lawful exactly when the same kind and the pattern's single are, be that one no number
  pub numbers_lawful : (kind bits : ℕ) → lawful_of (clarity_of kind bits) ≡ lawful_of (setting_of kind (of_bits binary32 bits))
  -- kind 0, whatever single or pattern stands beside it, counts as kind 1 with that of 0.5
  pub standard_numbers : (t : Float) (bits : ℕ) → (plainly (setting_of 0 t) ≡ plainly (setting_of 1 (of_bits binary32 0x3f00_0000)))
      × (plainly (clarity_of 0 bits) ≡ plainly (clarity_of 1 0x3f00_0000))
