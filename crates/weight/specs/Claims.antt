-- What section 3 says of weights, at every lawful setting of clarity and for all pictures. Definitions only; `proofs/Laws.antt` proves it.
use Rattle.std.specs.Prelude.{◌≡◌, true, false, ℕ, T, Float}
use Rattle.std.specs.Float.{binary32}
use Rattle.std.specs.Float.Ieee.{le, fits}
use Rattle.single.specs.Single.{f0, f½}
use Rattle.clarity.specs.declared.Clarity.{Clarity}
use Rattle.clarity.specs.declared.Clarity.TheVariants.{Standard, Threshold, Gated}
use Rattle.clarity.specs.Clarity.{threshold_of, lawful_of}
use Rattle.metric.specs.declared.Metric.{Metric}
use Rattle.metric.specs.declared.Weights.{Weights}
use Rattle.metric.specs.Metric.{metrics}
use Rattle.metric.specs.Claims.{UnitSingle}
use Rattle.weight.specs.Weight.{gate_open, corner_weight_of, weights}

-- a lawful setting: T is above 0, at most 1, and a single
pub record LawfulClarity (q : Clarity) : Type 0 where
  pub held : T (fits binary32 (threshold_of q))
  pub is : T (lawful_of q)

-- a pixel's weights, each from 0 to 1
pub record UnitWeights (q : Weights) : Type 0 where
  pub w0 : UnitSingle q.w0
  pub w1 : UnitSingle q.w1
  pub w2 : UnitSingle q.w2
  pub w3 : UnitSingle q.w3

pub record WeightLaws : Type 0 where
  -- the standard is lawful
  pub standard_lawful : LawfulClarity Standard
  -- of distances, a corner's weight lies in 0 to 1, whatever the secondary ones are, and is 0 from an edge distance of T on
  pub corner_weight_unit : {q : Clarity} {e p0 p1 : Float} (s0 s1 : Float) → LawfulClarity q → UnitSingle e → UnitSingle p0 → UnitSingle p1
      → UnitSingle (corner_weight_of q e p0 p1 s0 s1)
  pub corner_weight_far : {q : Clarity} {e p0 p1 : Float} (s0 s1 : Float) → LawfulClarity q → UnitSingle e → UnitSingle p0 → UnitSingle p1
      → T (le (threshold_of q) e) → corner_weight_of q e p0 p1 s0 s1 ≡ f0
  -- all weights of a picture lie in 0 to 1
  pub weights_unit : {q : Clarity} → LawfulClarity q → (w h : ℕ) (f : ℕ → ℕ → ℕ) (x y : ℕ) → UnitWeights (weights q w h (metrics w h f) x y)
  -- the standard is the threshold 0.5, for all operands
  pub corner_weight_standard : (e p0 p1 s0 s1 : Float) → corner_weight_of Standard e p0 p1 s0 s1 ≡ corner_weight_of (Threshold f½) e p0 p1 s0 s1
  pub weights_standard : (w h : ℕ) (m : ℕ → ℕ → Metric) (x y : ℕ) → weights Standard w h m x y ≡ weights (Threshold f½) w h m x y
  -- a gate that is closed gives +0, and one that is open the weight of its threshold, for all operands
  pub gate_closed_lem : (t e p0 p1 s0 s1 : Float) → gate_open e p0 p1 ≡ false → corner_weight_of (Gated t) e p0 p1 s0 s1 ≡ f0
  pub gate_open_lem : (t e p0 p1 s0 s1 : Float) → gate_open e p0 p1 ≡ true
      → corner_weight_of (Gated t) e p0 p1 s0 s1 ≡ corner_weight_of (Threshold t) e p0 p1 s0 s1
