-- `weight::weight_at` meets its contract. Assumes nothing.
use mathlib.Core.Path.{◌≡◌}
use mathlib.Core.Bool.{cond}
use borrow.Author.Rules.{rules}
use lib.Ieee.{Float, of_bits, neg, lt}
use Rattle.single.specs.Single.{f0, f1, ◌⊕◌, ◌⊖◌, ◌⊗◌, ◌⊘◌, max_of, min_of, clamp_of}
use Rattle.weight.specs.Weight.{weight_at}
use Rattle.weight.proofs.weight_at.Goals as goal

joined : (t e p0 p1 s0 s1 : Float) {m a b s d : Float} → m ≡ max_of (t ⊖ e) f0 → a ≡ min_of p0 s0 → b ≡ min_of p1 s1
    → s ≡ cond (lt (b ⊕ p1) (a ⊕ p0)) (p0 ⊖ p1) (neg (p0 ⊖ p1)) → d ≡ clamp_of (f1 ⊖ e ⊕ s) f0 f1 → m ⊘ t ⊗ d ⊗ p0 ⊗ p1 ≡ weight_at t e p0 p1 s0 s1
unfolding weight_at
joined t e p0 p1 s0 s1 i j k l m = rw (m, l, k, j, i)

pub returns : goal.returns
unfolding of_bits
returns c = search (rules, joined)
