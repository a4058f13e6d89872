-- `metric::metric_of` meets its contract. Assumes nothing.
use mathlib.Core.Path.{◌≡◌, sym, ◌∙◌}
use Prim.Native.Nat.{ℕ, ◌%◌, ◌^◌}
use mathlib.Core.Bool.{Bool, true, ◌&&◌}
use lib.Dec.{eqb}
use lib.Ieee.{Float, of_bits}
use Rattle.single.specs.Single.{f0}
use Rattle.metric.specs.declared.Metric.{Metric}
use Rattle.metric.specs.Metric.{metric_of}
use Rattle.metric.proofs.Channels.{both}
use Rattle.metric.proofs.Distances.{zero_where}
use Rattle.metric.proofs.metric_of.Goals as goal

made : {a b c d a' b' c' d' : Float} → a ≡ a' → b ≡ b' → c ≡ c' → d ≡ d'
    → ◌≡◌ {A = Metric} (record { tl = a; t = b; tr = c; r = d }) (record { tl = a'; t = b'; tr = c'; r = d' })
made p q r s = λ i. record { tl = p i; t = q i; tr = r i; r = s i }

flat : (c tl t tr r : ℕ) (u v w x : Bool) → u ≡ eqb (c % 2 ^ 24) (tl % 2 ^ 24) → v ≡ eqb (c % 2 ^ 24) (t % 2 ^ 24) → w ≡ eqb (c % 2 ^ 24) (tr % 2 ^ 24) → x ≡ eqb (c % 2 ^ 24) (r % 2 ^ 24)
    → (u && v && w && x) ≡ true → record { tl = f0; t = f0; tr = f0; r = f0 } ≡ metric_of c tl t tr r
unfolding metric_of
flat c tl t tr r u v w x i j k l h =
    let a = both (u && v && w) x h in
    let b = both (u && v) w a.0 in
    let d = both u v b.0 in
    made (sym (zero_where c tl (sym i ∙ d.0))) (sym (zero_where c t (sym j ∙ d.1))) (sym (zero_where c tr (sym k ∙ b.1))) (sym (zero_where c r (sym l ∙ a.1)))

pub returns-then-same : goal.returns-then-same
unfolding of_bits
returns-then-same c = (
  flat _ _ _ _ _ _ _ _ _ c.same.ensures c.same-2.ensures
      c.same-3.ensures c.same-4.ensures c.if-same.true,
  c.requires,
)

pub returns : goal.returns
unfolding metric_of
returns c = (
  made c.distance_by.ensures c.distance_by-2.ensures c.distance_by-3.ensures
      c.distance_by-4.ensures,
  c.distance_after-d.ensures,
)
