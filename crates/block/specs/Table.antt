-- The rules' table, T1 to T13: thirteen pairs of what the definitions give and what the rules say; the weights are those of the standard
-- setting. Definitions only.
use mathlib.Core.Bool.{Bool, true, ◌&&◌}
use Rattle.std.specs.Prelude.{List, [], ◌∷◌, ℕ, eqb, Float}
use Rattle.std.specs.Float.{binary32}
use Rattle.std.specs.Float.Ieee.{of_bits, to_bits}
use Rattle.clarity.specs.declared.Clarity.TheVariants.{Standard}
use Rattle.single.specs.Single.{f0, f½, f1}
use Rattle.single.specs.Root.{sqrt_of}
use Rattle.metric.specs.Distance.{distance_of}
use Rattle.weight.specs.Weight.{corner_weight_of}
use Rattle.tag.specs.Laws.{tag_at0}

-- a bit pattern's single, and a single's bit pattern
abbrev single : ℕ → Float
single b = of_bits binary32 b

abbrev bits : Float → ℕ
bits x = to_bits binary32 x

pub record Entry : Type 0 where
  pub given : ℕ
  pub tabled : ℕ

abbrev pub entry : ℕ → ℕ → Entry
entry g t = record { given = g; tabled = t }

unfoldable pub table : List Entry
table =
    entry (bits (sqrt_of (single 0x0000_0000))) 0x0000_0000
    ∷ entry (bits (sqrt_of (single 0x0000_0001))) 0x1a35_04f3
    ∷ entry (bits (sqrt_of (single 0x3e80_0000))) 0x3f00_0000
    ∷ entry (bits (sqrt_of (single 0x4000_0000))) 0x3fb5_04f3
    ∷ entry (bits (sqrt_of (single 0x4110_0000))) 0x4040_0000
    ∷ entry (bits (sqrt_of (single 0x7f7f_ffff))) 0x5f7f_ffff
    ∷ entry (bits (distance_of 0x0000_0000 0x00ff_ffff)) (bits f1)
    ∷ entry (bits (distance_of 0xff12_3456 0x0012_3456)) (bits f0)
    ∷ entry (bits (corner_weight_of Standard f½ f1 f1 f1 f1)) (bits f0)
    ∷ entry (bits (corner_weight_of Standard (single 0x3e80_0000) f1 f½ f0 f1)) 0x3d80_0000
    ∷ entry (bits (corner_weight_of Standard (single 0x3e80_0000) f1 f½ f½ f½)) 0x3e80_0000
    ∷ entry (tag_at0 9) 5
    ∷ entry (tag_at0 1) 1
    ∷ []

-- all entries agree
abbrev pub agree : List Entry → Bool
agree [] = true
agree (e ∷ es) = eqb e.given e.tabled && agree es
