-- The order of the checks with a palette, at pictures of one row: in each list the next line mends at least what the line before was refused
-- for, and the lines on the number of entries stand side by side. Assumes nothing.
use Rattle.std.specs.Prelude.{◌≡◌, refl, List, ℕ, Float, replicate}
use Rattle.std.specs.Float.Ieee.{lt}
use Rattle.picture.specs.Refusal as Refusal
use Rattle.single.specs.Single.{f0}
use Rattle.clarity.specs.declared.Clarity.{Clarity}
use Rattle.clarity.specs.declared.Clarity.TheVariants.{Standard, Threshold}
use Rattle.whole_palette.specs.Calls.{refusal_palette, refusal_by3, refusal_by9}

abbrev zeros : ℕ → List ℕ
zeros n = replicate n 0

abbrev singles : ℕ → List Float
singles n = replicate n f0

-- a threshold of 0, which is not lawful
abbrev bad : Clarity
bad = Threshold f0

-- three-times of w by 1 at a setting, with so many words of picture, palette, replaced and output, and so many singles and bytes
abbrev three : Clarity → ℕ → ℕ → ℕ → ℕ → ℕ → ℕ → ℕ → ℕ
three q w p k x o s b = refusal_by3 q w 1 (zeros p) (zeros k) (zeros x) (zeros o) (singles s) (zeros b)

-- nine-times, with a middle m behind the output
abbrev nine : Clarity → ℕ → ℕ → ℕ → ℕ → ℕ → ℕ → ℕ → ℕ → ℕ
nine q w p k x o m s b = refusal_by9 q w 1 (zeros p) (zeros k) (zeros x) (zeros o) (zeros m) (singles s) (zeros b)

pub record PaletteOrders : Type 0 where
  -- three-times: 1, 2, 3, 4, 4 of the replaced buffer, 13, 14 of no entry and of 257
  pub scale_palette_order : (three bad 2049 0 0 0 8 7 7 ≡ Refusal.side)
      × (three bad 1 0 0 0 8 7 7 ≡ Refusal.picture)
      × (three bad 1 1 0 0 8 7 7 ≡ Refusal.output)
      × (three bad 1 1 0 0 9 7 8 ≡ Refusal.scratch)
      × (three bad 1 1 0 0 9 8 8 ≡ Refusal.scratch)
      × (three bad 1 1 0 1 9 8 8 ≡ Refusal.clarity)
      × (three Standard 1 1 0 1 9 8 8 ≡ Refusal.palette)
      × (three Standard 1 1 257 1 9 8 8 ≡ Refusal.palette)
      × (three Standard 1 1 256 1 9 8 8 ≡ Refusal.none)
      × (three Standard 1 1 1 1 9 8 8 ≡ Refusal.none)
  -- nine-times, the same, with 4 of the middle too
  pub scale9x_palette_order : (nine bad 683 0 0 0 80 8 71 71 ≡ Refusal.side)
      × (nine bad 1 0 0 0 80 8 71 71 ≡ Refusal.picture)
      × (nine bad 1 1 0 0 80 8 71 71 ≡ Refusal.output)
      × (nine bad 1 1 0 0 81 8 72 72 ≡ Refusal.scratch)
      × (nine bad 1 1 0 0 81 9 72 72 ≡ Refusal.scratch)
      × (nine bad 1 1 0 1 81 9 72 72 ≡ Refusal.clarity)
      × (nine Standard 1 1 0 1 81 9 72 72 ≡ Refusal.palette)
      × (nine Standard 1 1 257 1 81 9 72 72 ≡ Refusal.palette)
      × (nine Standard 1 1 256 1 81 9 72 72 ≡ Refusal.none)
      × (nine Standard 1 1 1 1 81 9 72 72 ≡ Refusal.none)
  -- a picture of no columns is refused 14 all the same, and is taken with a lawful palette
  pub empty_picture_order : (three Standard 0 0 0 0 0 0 0 ≡ Refusal.palette)
      × (three Standard 0 0 257 0 0 0 0 ≡ Refusal.palette)
      × (three Standard 0 0 1 0 0 0 0 ≡ Refusal.none)
      × (nine Standard 0 0 0 0 0 0 0 0 ≡ Refusal.palette)
      × (nine Standard 0 0 1 0 0 0 0 0 ≡ Refusal.none)

pub palette_orders : PaletteOrders
unfolding lt refusal_palette
palette_orders = record {
  scale_palette_order = (refl, refl, refl, refl, refl, refl, refl, refl, refl, refl);
  scale9x_palette_order = (refl, refl, refl, refl, refl, refl, refl, refl, refl, refl);
  empty_picture_order = (refl, refl, refl, refl, refl);
}
