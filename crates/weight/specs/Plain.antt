-- Plain ground, and a closed gate, which the code tests for; nothing of the rules rests on them. Definitions only.
use Rattle.std.specs.Prelude.{Bool, false, not, ◌&&◌, Float}
use Rattle.std.specs.Float.Ieee.{eq}
use Rattle.clarity.specs.declared.Clarity.{Clarity}
use Rattle.clarity.specs.declared.Clarity.TheVariants.{Standard, Threshold, Gated}
use Rattle.metric.specs.declared.Metric.{Metric}
use Rattle.single.specs.Single.{f0}
use Rattle.weight.specs.Weight.{gate_open}

-- all distances are 0 that these weights hang on, but for a sign
abbrev pub plain_of : Metric → Metric → Metric → Metric → Bool
plain_of l c r b =
    eq l.tr f0 && eq l.r f0 && eq c.t f0 && eq c.r f0 && eq r.tl f0 && eq b.tl f0 && eq b.t f0 && eq b.tr f0

-- a setting with a gate, and the gate is closed
abbrev pub gate_closed : Clarity → Float → Float → Float → Bool
gate_closed Standard edge_dist primary0 primary1 = false
gate_closed (Threshold t) edge_dist primary0 primary1 = false
gate_closed (Gated t) edge_dist primary0 primary1 = not (gate_open edge_dist primary0 primary1)
