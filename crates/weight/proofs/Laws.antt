-- What `specs/Claims.antt` says of weights. Assumes nothing.
use mathlib.Core.Path.{◌≡◌, refl}
use mathlib.Core.Bool.{true, false}
use Prim.Native.Nat.{ℕ}
use lib.Dec.{T}
use lib.Ieee.{Float, le, fits}
use Rattle.single.specs.Single.{f0, f½}
use Rattle.clarity.specs.declared.Clarity.{Clarity}
use Rattle.clarity.specs.declared.Clarity.TheVariants.{Standard, Threshold, Gated}
use Rattle.metric.specs.declared.Metric.{Metric}
use Rattle.metric.specs.Metric.{metrics}
use Rattle.weight.specs.Weight.{gate_open, corner_weight_of, weights_of, weights}
use Rattle.weight.specs.Claims.{LawfulClarity, UnitWeights, WeightLaws}
use Rattle.clarity.specs.Clarity.{threshold_of}
use Rattle.metric.specs.Claims.{UnitSingle, UnitMetric}
use Rattle.metric.proofs.Laws.{made, in01, metrics_unit}
use Rattle.weight.proofs.Corner as Corner

pub standard_lawful : LawfulClarity Standard
unfolding fits
standard_lawful = record { held = tt; is = tt }

-- ---- a corner's weight, of an edge distance and the primary distances; the secondary ones only choose a sign
module _ {q : Clarity} {e p0 p1 : Float} (s0 s1 : Float) (u : LawfulClarity q) (i : UnitSingle e) (j : UnitSingle p0) (k : UnitSingle p1) where
  pub corner_weight_unit : UnitSingle (corner_weight_of q e p0 p1 s0 s1)
  corner_weight_unit =
      made (Corner.weight_fits e p0 p1 s0 s1 (in01 i) (in01 j) (in01 k) q)
      (Corner.weight_in e p0 p1 s0 s1 (in01 i) (in01 j) (in01 k) q (Corner.bound q u.held u.is))

  -- an edge distance of T or more
  pub corner_weight_far : T (le (threshold_of q) e) → corner_weight_of q e p0 p1 s0 s1 ≡ f0
  corner_weight_far = Corner.weight_far e p0 p1 s0 s1 (in01 i) (in01 j) (in01 k) q (Corner.bound q u.held u.is)

-- ---- the standard is the threshold 0.5, for all operands
pub corner_weight_standard : (e p0 p1 s0 s1 : Float) → corner_weight_of Standard e p0 p1 s0 s1 ≡ corner_weight_of (Threshold f½) e p0 p1 s0 s1
unfolding corner_weight_of
corner_weight_standard e p0 p1 s0 s1 = refl

pub weights_of_standard : (tl t l c r bl b br : Metric) → weights_of Standard tl t l c r bl b br ≡ weights_of (Threshold f½) tl t l c r bl b br
unfolding weights_of corner_weight_of
weights_of_standard tl t l c r bl b br = refl

pub weights_standard : (w h : ℕ) (m : ℕ → ℕ → Metric) (x y : ℕ) → weights Standard w h m x y ≡ weights (Threshold f½) w h m x y
unfolding weights
weights_standard w h m x y = weights_of_standard _ _ _ _ _ _ _ _

-- ---- a gate that is closed gives +0, and one that is open the weight of its threshold, for all operands
module _ (t e p0 p1 s0 s1 : Float) where
  pub gate_closed_lem : gate_open e p0 p1 ≡ false → corner_weight_of (Gated t) e p0 p1 s0 s1 ≡ f0
  unfolding corner_weight_of
  gate_closed_lem h = rw h

  pub gate_open_lem : gate_open e p0 p1 ≡ true → corner_weight_of (Gated t) e p0 p1 s0 s1 ≡ corner_weight_of (Threshold t) e p0 p1 s0 s1
  unfolding corner_weight_of
  gate_open_lem h = rw h

-- ---- a pixel's weights, and all weights of a picture
module _ {q : Clarity} (u : LawfulClarity q) (tl t l c r bl b br : Metric) (ul : UnitMetric l) (uc : UnitMetric c) (ur : UnitMetric r) (ub : UnitMetric b) where
  pub weights_of_unit : UnitWeights (weights_of q tl t l c r bl b br)
  unfolding weights_of
  weights_of_unit = record {
    w0 = corner_weight_unit tl.r l.t u ul.tr ul.r uc.t;
    w1 = corner_weight_unit t.r r.t u ur.tl uc.r uc.t;
    w2 = corner_weight_unit b.r br.t u ub.tr uc.r ub.t;
    w3 = corner_weight_unit bl.r bl.t u ub.tl ul.r ub.t;
  }

pub weights_unit : {q : Clarity} → LawfulClarity q → (w h : ℕ) (f : ℕ → ℕ → ℕ) (x y : ℕ) → UnitWeights (weights q w h (metrics w h f) x y)
unfolding weights
weights_unit u w h f x y = weights_of_unit u _ _ _ _ _ _ _ _ (metrics_unit w h f _ _) (metrics_unit w h f _ _) (metrics_unit w h f _ _) (metrics_unit w h f _ _)

pub weight_laws : WeightLaws
weight_laws = record {
  standard_lawful = standard_lawful;
  corner_weight_unit = corner_weight_unit;
  corner_weight_far = corner_weight_far;
  weights_unit = weights_unit;
  corner_weight_standard = corner_weight_standard;
  weights_standard = weights_standard;
  gate_closed_lem = gate_closed_lem;
  gate_open_lem = gate_open_lem;
}
