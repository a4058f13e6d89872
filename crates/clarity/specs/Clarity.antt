-- A panel type's clarity: which settings are lawful, which count as equal, and the setting that a C caller's numbers stand for.
-- Definitions only.
use Rattle.std.specs.Prelude.{Bool, true, ◌&&◌, ◌||◌, cond, ℕ, eqb, ltb, Float}
use Rattle.std.specs.Float.{binary32}
use Rattle.std.specs.Float.Ieee.{of_bits, lt, le}
use Rattle.clarity.specs.declared.Clarity.{Clarity}
use Rattle.clarity.specs.declared.Clarity.TheVariants.{Standard, Threshold, Gated}
use Rattle.single.specs.Single.{f0, f½, f1}

-- the threshold of a setting
abbrev pub threshold_of : Clarity → Float
threshold_of Standard = f½
threshold_of (Threshold t) = t
threshold_of (Gated t) = t

-- above 0 and at most 1: what is not a number is neither
abbrev pub lawful_single : Float → Bool
lawful_single t = lt f0 t && le t f1

-- the setting is not refused
abbrev pub lawful_of : Clarity → Bool
lawful_of Standard = true
lawful_of (Threshold t) = lawful_single t
lawful_of (Gated t) = lawful_single t

-- the standard as the threshold that it equals: two settings count as equal where these are the same
abbrev pub plainly : Clarity → Clarity
plainly Standard = Threshold f½
plainly (Threshold t) = Threshold t
plainly (Gated t) = Gated t

-- ---- numbers of a C caller: kind 0 is the standard, 1 a threshold and 2 a gated one

-- the setting that a kind and a single stand for; at kind 0 the single is not looked at, and a kind above 2 is not lawful
abbrev pub setting_of : ℕ → Float → Clarity
setting_of kind threshold =
    cond (eqb kind 0) Standard
    (cond (eqb kind 1) (Threshold threshold)
    (cond (eqb kind 2) (Gated threshold)
    (Threshold f0)))

-- the setting that a kind and a single's pattern stand for: the patterns from 1 to that of 1.0 are those of lawful singles, and all else
-- counts as 0, which is not lawful
abbrev pub clarity_of : ℕ → ℕ → Clarity
clarity_of kind bits = setting_of kind (cond (eqb bits 0 || ltb 0x3f80_0000 bits) f0 (of_bits binary32 bits))

-- a setting's kind
abbrev pub kind_of : Clarity → ℕ
kind_of Standard = 0
kind_of (Threshold t) = 1
kind_of (Gated t) = 2
