-- `weight::corner_weight` meets its contract: the weight is that of the threshold, unless a gate is closed. Assumes nothing.
use mathlib.Core.Path.{◌≡◌, refl, sym, ap, ◌∙◌}
use mathlib.Core.Bool.{Bool, true, false, not, cond}
use lib.Ieee.{Float, of_bits}
use Rattle.single.specs.Single.{f0}
use Rattle.clarity.specs.declared.Clarity.{Clarity}
use Rattle.clarity.specs.declared.Clarity.TheVariants.{Standard, Threshold, Gated}
use Rattle.clarity.specs.Clarity.{threshold_of}
use Rattle.weight.specs.Weight.{weight_at, gate_open, corner_weight_of}
use Rattle.weight.specs.Plain.{gate_closed}
use Rattle.weight.proofs.corner_weight.Goals as goal

turned : (t : Bool) (x y : Float) → cond (not t) x y ≡ cond t y x
turned true x y = refl
turned false x y = refl

module _ (e p0 p1 s0 s1 : Float) where
  -- the gate asked last
  gated_last : (q : Clarity) → cond (gate_closed q e p0 p1) f0 (weight_at (threshold_of q) e p0 p1 s0 s1) ≡ corner_weight_of q e p0 p1 s0 s1
  unfolding corner_weight_of
  gated_last Standard = refl
  gated_last (Threshold t) = refl
  gated_last (Gated t) = turned (gate_open e p0 p1) f0 (weight_at t e p0 p1 s0 s1)

pub returns-then-gate_closed : goal.returns-then-gate_closed
unfolding of_bits
returns-then-gate_closed c =
    let a = c.args in
    let w = weight_at (threshold_of a.clarity) a.edge_dist a.primary.0 a.primary.1 a.secondary.0 a.secondary.1 in
    ap (λ (t : Bool). cond t f0 w) (sym c.if-gate_closed.true ∙ c.gate_closed.ensures)
    ∙ gated_last a.edge_dist a.primary.0 a.primary.1 a.secondary.0 a.secondary.1 a.clarity

pub returns : goal.returns
returns c =
    let a = c.args in
    let at : Float → Float = λ t. weight_at t a.edge_dist a.primary.0 a.primary.1 a.secondary.0 a.secondary.1 in
    c.weight_at-weight.ensures
    ∙ ap at c.threshold_of.ensures
    ∙ ap (λ (t : Bool). cond t f0 (at (threshold_of a.clarity))) (sym c.if-gate_closed.false ∙ c.gate_closed.ensures)
    ∙ gated_last a.edge_dist a.primary.0 a.primary.1 a.secondary.0 a.secondary.1 a.clarity
