-- What section 3 says of distances and metrics, for all words and for all pictures. Definitions only; `proofs/Laws.antt` proves it.
use Rattle.std.specs.Prelude.{◌≡◌, ◌↔◌, ℕ, ◌%◌, ◌^◌, T, Float}
use Rattle.std.specs.Float.{binary32}
use Rattle.std.specs.Float.Ieee.{le, fits}
use Rattle.single.specs.Single.{f0, f1}
use Rattle.single.specs.Root.{rooted}
use Rattle.metric.specs.declared.Metric.{Metric}
use Rattle.metric.specs.Distance.{distance_of}
use Rattle.metric.specs.Metric.{metrics}

-- x is a single from 0 to 1: finite, and without the sign bit
pub record UnitSingle (x : Float) : Type 0 where
  pub held : T (fits binary32 x)
  pub clear : T (rooted x)
  pub from : T (le f0 x)
  pub to : T (le x f1)

-- a metric of distances
pub record UnitMetric (m : Metric) : Type 0 where
  pub tl : UnitSingle m.tl
  pub t : UnitSingle m.t
  pub tr : UnitSingle m.tr
  pub r : UnitSingle m.r

pub record DistanceLaws : Type 0 where
  -- the distance of two words lies in 0 to 1, is 0 exactly where their low 24 bits agree, and is symmetric
  pub distance_unit : (p q : ℕ) → UnitSingle (distance_of p q)
  pub distance_zero : (p q : ℕ) → (distance_of p q ≡ f0) ↔ (p % 2 ^ 24 ≡ q % 2 ^ 24)
  pub distance_symmetric : (p q : ℕ) → distance_of p q ≡ distance_of q p
  -- so do all four of each metric of a picture
  pub metrics_unit : (w h : ℕ) (f : ℕ → ℕ → ℕ) (x y : ℕ) → UnitMetric (metrics w h f x y)
