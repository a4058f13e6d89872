-- What the test of plain ground shows, one by one. Assumes nothing.
use mathlib.Core.Path.{◌≡◌}
use mathlib.Core.Bool.{Bool, true, ◌&&◌}
use lib.Ieee.{Float, eq}
use Rattle.single.specs.Single.{f0}
use Rattle.metric.specs.declared.Metric.{Metric}
use Rattle.metric.specs.declared.Weights.{Weights}
use Rattle.weight.specs.Plain.{plain_of}
use Rattle.metric.proofs.Channels.{both}

abbrev none : Float → Bool
none x = eq x f0

pub record Ground (l c r b : Metric) : Type 0 where
  pub l_tr : none l.tr ≡ true
  pub l_r : none l.r ≡ true
  pub c_t : none c.t ≡ true
  pub c_r : none c.r ≡ true
  pub r_tl : none r.tl ≡ true
  pub b_tl : none b.tl ≡ true
  pub b_t : none b.t ≡ true
  pub b_tr : none b.tr ≡ true

pub ground : (l c r b : Metric) → plain_of l c r b ≡ true → Ground l c r b
ground l c r b h =
    let a8 = both (none l.tr && none l.r && none c.t && none c.r && none r.tl && none b.tl && none b.t) (none b.tr) h in
    let a7 = both (none l.tr && none l.r && none c.t && none c.r && none r.tl && none b.tl) (none b.t) a8.0 in
    let a6 = both (none l.tr && none l.r && none c.t && none c.r && none r.tl) (none b.tl) a7.0 in
    let a5 = both (none l.tr && none l.r && none c.t && none c.r) (none r.tl) a6.0 in
    let a4 = both (none l.tr && none l.r && none c.t) (none c.r) a5.0 in
    let a3 = both (none l.tr && none l.r) (none c.t) a4.0 in
    let a2 = both (none l.tr) (none l.r) a3.0 in
    record { l_tr = a2.0; l_r = a2.1; c_t = a3.1; c_r = a4.1; r_tl = a5.1; b_tl = a6.1; b_t = a7.1; b_tr = a8.1 }

pub made : {a b c d a' b' c' d' : Float} → a ≡ a' → b ≡ b' → c ≡ c' → d ≡ d'
    → ◌≡◌ {A = Weights} (record { w0 = a; w1 = b; w2 = c; w3 = d }) (record { w0 = a'; w1 = b'; w2 = c'; w3 = d' })
made p q r s = λ i. record { w0 = p i; w1 = q i; w2 = r i; w3 = s i }
