-- `weight::weights_of` meets its contract. Assumes nothing.
use mathlib.Core.Path.{◌≡◌, sym, ◌∙◌}
use mathlib.Core.Bool.{true}
use Rattle.clarity.specs.Clarity.{lawful_of}
use Rattle.weight.specs.Weight.{weights_of}
use Rattle.metric.proofs.Channels.{both}
use Rattle.weight.proofs.Ground.{Ground, ground, made}
use Rattle.weight.proofs.weights_of.Goals as goal

pub returns-then-plain-lawful : goal.returns-then-plain-lawful
unfolding weights_of
returns-then-plain-lawful c =
    let known : (lawful_of c.args.clarity ≡ true) × Ground c.args.m.l c.args.m.c c.args.m.r c.args.m.b = let b = both c.plain.result c.lawful.result c.if-plain-lawful.true in
    (sym c.lawful.ensures ∙ b.1, ground _ _ _ _ (sym c.plain.ensures ∙ b.0)) in
    let k = known in
    made (c.plain_weight.ensures _ _ _ k.1.l_tr) (c.plain_weight-then-plain-lawful.ensures _ _ _ k.1.r_tl)
    (c.plain_weight-then-plain-lawful-2.ensures _ _ _ k.1.b_tr) (c.plain_weight-then-plain-lawful-3.ensures _ _ _ k.1.b_tl)

pub returns : goal.returns
unfolding weights_of
returns c = made c.corner_weight.ensures c.corner_weight-2.ensures c.corner_weight-3.ensures c.corner_weight-4.ensures
