-- What `specs/Claims.antt` says of distances and metrics. Assumes nothing.
use mathlib.Core.Path.{◌≡◌}
use mathlib.Core.Logic.{◌↔◌}
use Prim.Native.Nat.{ℕ, ◌%◌, ◌^◌}
use lib.Dec.{T}
use lib.Ieee.{Float, binary32, fits}
use Rattle.single.specs.Single.{f0, f1}
use Rattle.metric.specs.Distance.{distance_of}
use Rattle.metric.specs.Metric.{metric_of, metrics}
use Rattle.metric.specs.Claims.{UnitSingle, UnitMetric, DistanceLaws}
use Rattle.nonneg.proofs.Nonneg.{In}
use Rattle.metric.proofs.Distances as Distances

pub made : {x : Float} → T (fits binary32 x) → In f0 f1 x → UnitSingle x
made f i = record { held = f; clear = i.is; from = i.from; to = i.to }

pub in01 : {x : Float} → UnitSingle x → In f0 f1 x
in01 u = record { is = u.clear; lo_is = tt; hi_is = tt; from = u.from; to = u.to }

-- ---- the distance of two words
module _ (p q : ℕ) where
  pub distance_unit : UnitSingle (distance_of p q)
  distance_unit = made (Distances.fits_32 p q) (Distances.unit p q)

  pub distance_zero : (distance_of p q ≡ f0) ↔ (p % 2 ^ 24 ≡ q % 2 ^ 24)
  distance_zero = (Distances.zero_only_if p q, Distances.zero_if p q)

  pub distance_symmetric : distance_of p q ≡ distance_of q p
  distance_symmetric = Distances.symmetric p q

-- ---- a metric of distances, and all metrics of a picture
pub metric_unit : (c tl t tr r : ℕ) → UnitMetric (metric_of c tl t tr r)
unfolding metric_of
metric_unit c tl t tr r = record { tl = distance_unit c tl; t = distance_unit c t; tr = distance_unit c tr; r = distance_unit c r }

pub metrics_unit : (w h : ℕ) (f : ℕ → ℕ → ℕ) (x y : ℕ) → UnitMetric (metrics w h f x y)
unfolding metrics
metrics_unit w h f x y = metric_unit _ _ _ _ _

pub distance_laws : DistanceLaws
distance_laws = record {
  distance_unit = distance_unit;
  distance_zero = distance_zero;
  distance_symmetric = distance_symmetric;
  metrics_unit = metrics_unit;
}
