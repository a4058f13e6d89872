-- The order of the checks of whole pictures, at a picture of one pixel: where several conditions hold, the first gives the number. In each
-- list the next line mends what the line before was refused for; lengths are exact or one short. Assumes nothing.
use Rattle.std.specs.Prelude.{◌≡◌, refl, List, ℕ, Float, replicate}
use Rattle.std.specs.Float.Ieee.{lt}
use Rattle.picture.specs.Refusal as Refusal
use Rattle.single.specs.Single.{f0}
use Rattle.clarity.specs.declared.Clarity.{Clarity}
use Rattle.clarity.specs.declared.Clarity.TheVariants.{Standard, Threshold}
use Rattle.sizes.specs.Sizes.{refusal3, refusal9}

abbrev zeros : ℕ → List ℕ
zeros n = replicate n 0

abbrev singles : ℕ → List Float
singles n = replicate n f0

-- a threshold of 0, which is not lawful
abbrev bad : Clarity
bad = Threshold f0

-- the calls of whole pictures
pub record WholeOrders : Type 0 where
  -- three-times: 1, 2, 3, 4, 13
  pub scale_order : (refusal3 bad 2049 1 (zeros 0) (zeros 8) (singles 7) (zeros 7) ≡ Refusal.side)
      × (refusal3 bad 1 1 (zeros 0) (zeros 8) (singles 7) (zeros 7) ≡ Refusal.picture)
      × (refusal3 bad 1 1 (zeros 1) (zeros 8) (singles 7) (zeros 7) ≡ Refusal.output)
      × (refusal3 bad 1 1 (zeros 1) (zeros 9) (singles 7) (zeros 8) ≡ Refusal.scratch)
      × (refusal3 bad 1 1 (zeros 1) (zeros 9) (singles 8) (zeros 7) ≡ Refusal.scratch)
      × (refusal3 bad 1 1 (zeros 1) (zeros 9) (singles 8) (zeros 8) ≡ Refusal.clarity)
      × (refusal3 Standard 1 1 (zeros 1) (zeros 9) (singles 8) (zeros 8) ≡ Refusal.none)
  -- nine-times: 1, 2, 3, 4, 13
  pub scale9x_order : (refusal9 bad 683 1 (zeros 0) (zeros 80) (zeros 8) (singles 71) (zeros 71) ≡ Refusal.side)
      × (refusal9 bad 1 1 (zeros 0) (zeros 80) (zeros 8) (singles 71) (zeros 71) ≡ Refusal.picture)
      × (refusal9 bad 1 1 (zeros 1) (zeros 80) (zeros 8) (singles 71) (zeros 71) ≡ Refusal.output)
      × (refusal9 bad 1 1 (zeros 1) (zeros 81) (zeros 8) (singles 72) (zeros 72) ≡ Refusal.scratch)
      × (refusal9 bad 1 1 (zeros 1) (zeros 81) (zeros 9) (singles 71) (zeros 72) ≡ Refusal.scratch)
      × (refusal9 bad 1 1 (zeros 1) (zeros 81) (zeros 9) (singles 72) (zeros 71) ≡ Refusal.scratch)
      × (refusal9 bad 1 1 (zeros 1) (zeros 81) (zeros 9) (singles 72) (zeros 72) ≡ Refusal.clarity)
      × (refusal9 Standard 1 1 (zeros 1) (zeros 81) (zeros 9) (singles 72) (zeros 72) ≡ Refusal.none)

pub whole_orders : WholeOrders
unfolding lt
whole_orders = record {
  scale_order = (refl, refl, refl, refl, refl, refl, refl);
  scale9x_order = (refl, refl, refl, refl, refl, refl, refl, refl);
}
