-- Section 3's weight: `corner_weight` and `compute_corner_weights` of scalefx.rs, expression by expression, at a setting of clarity. Definitions only.
use Rattle.std.specs.Prelude.{Bool, cond, ℕ, pos, negsuc, Float}
use Rattle.std.specs.Float.Ieee.{neg, lt}
use Rattle.picture.specs.Picture.{near}
use Rattle.clarity.specs.declared.Clarity.{Clarity}
use Rattle.clarity.specs.declared.Clarity.TheVariants.{Standard, Threshold, Gated}
use Rattle.metric.specs.declared.Metric.{Metric}
use Rattle.metric.specs.declared.Weights.{Weights}
use Rattle.single.specs.Single.{f0, f½, f1, f2, ◌⊕◌, ◌⊖◌, ◌⊗◌, ◌⊘◌, max_of, min_of, clamp_of}

-- the weight at a threshold, which is CLARITY_THRESHOLD in the source
unfoldable pub weight_at : Float → Float → Float → Float → Float → Float → Float
weight_at threshold edge_dist primary0 primary1 secondary0 secondary1 =
    let proximity = max_of (threshold ⊖ edge_dist) f0 ⊘ threshold in
    let bias = primary0 ⊖ primary1 in
    let stronger_axis =
    cond (lt (min_of primary1 secondary1 ⊕ primary1) (min_of primary0 secondary0 ⊕ primary0))
    bias
    (neg bias) in
    let direction = clamp_of (f1 ⊖ edge_dist ⊕ stronger_axis) f0 f1 in
    proximity ⊗ direction ⊗ primary0 ⊗ primary1

-- the gate is open: 2 times the edge distance is below the sum of the primary ones, in single precision
abbrev pub gate_open : Float → Float → Float → Bool
gate_open edge_dist primary0 primary1 = lt (f2 ⊗ edge_dist) (primary0 ⊕ primary1)

-- the weight at a setting: at 0.5; at T; at T where the gate is open, and else +0.0
unfoldable pub corner_weight_of : Clarity → Float → Float → Float → Float → Float → Float
corner_weight_of Standard edge_dist primary0 primary1 secondary0 secondary1 = weight_at f½ edge_dist primary0 primary1 secondary0 secondary1
corner_weight_of (Threshold t) edge_dist primary0 primary1 secondary0 secondary1 = weight_at t edge_dist primary0 primary1 secondary0 secondary1
corner_weight_of (Gated t) edge_dist primary0 primary1 secondary0 secondary1 =
    cond (gate_open edge_dist primary0 primary1)
    (weight_at t edge_dist primary0 primary1 secondary0 secondary1)
    f0

-- the weights of the corners top-left, top-right, bottom-right and bottom-left, of the metrics c of a pixel and tl t l r bl b br around it
unfoldable pub weights_of : Clarity → Metric → Metric → Metric → Metric → Metric → Metric → Metric → Metric → Weights
weights_of clarity tl t l c r bl b br = record {
  w0 = corner_weight_of clarity l.tr l.r c.t tl.r l.t;
  w1 = corner_weight_of clarity r.tl c.r c.t t.r r.t;
  w2 = corner_weight_of clarity b.tr c.r b.t b.r br.t;
  w3 = corner_weight_of clarity b.tl l.r b.t bl.r bl.t;
}

-- the weights at (x, y) of the w by h field m of metrics
unfoldable pub weights : Clarity → ℕ → ℕ → (ℕ → ℕ → Metric) → ℕ → ℕ → Weights
weights clarity w h m x y =
    let at = near w h m x y in
    weights_of clarity (at (negsuc 0) (negsuc 0)) (at (pos 0) (negsuc 0)) (at (negsuc 0) (pos 0)) (at (pos 0) (pos 0)) (at (pos 1) (pos 0))
    (at (negsuc 0) (pos 1)) (at (pos 0) (pos 1)) (at (pos 1) (pos 1))
