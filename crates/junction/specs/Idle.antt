-- A pixel whose weights are all 0.0 has no active corner, whatever stands around it; and a corner among distances of 0.0
-- that is not active has number 0. Assumes nothing.
use Rattle.std.specs.Prelude.{◌≡◌, refl, Bool, true, false, not, ◌&&◌, ◌||◌, T}
use Rattle.std.proofs.Common.{sym, subst}
use Rattle.std.specs.Float.Ieee.{sub, le, eq}
use Rattle.metric.specs.declared.Pair.{Pair}
use Rattle.metric.specs.declared.Weights.{Weights}
use Rattle.single.specs.Single.{f0, ◌⊕◌}
use Rattle.active_corners.specs.declared.Triple.{Triple}
use Rattle.active_corners.specs.declared.Corner.{Corner}
use Rattle.active_corners.specs.Active.{above, at0, at1, at2, at3, dominance_of, vote_of, inject_of}
use Rattle.active_corners.specs.Active.{suppress_of, weightless_of, active_corners}
use Rattle.junction.specs.Flags.{number_of}
use Rattle.single.specs.Zero.{Zero, zero, neg_zero, add_zero, twice_zero, min_zero, lt_zero}

abbrev none : Corner
none = record { vote = false; active = false }

idle_flags : (g x a b s y : Bool) → g ≡ false → s ≡ false
    → ◌≡◌ {A = Corner} (record { vote = g && x; active = (g && x) || (a && b && s && y) }) none
idle_flags true x a b s y e k = absurd (subst T e tt)
idle_flags false x a b true y e k = absurd (subst T k tt)
idle_flags false x true true false y e k = refl
idle_flags false x true false false y e k = refl
idle_flags false x false b false y e k = refl

idle : (own next opposite prev : Triple) → Zero own.0 → Zero own.1 → Zero own.2 → inject_of own next opposite prev ≡ none
unfolding inject_of vote_of dominance_of sub eq
idle own next opposite prev z0 z1 z2 =
    let d = dominance_of own in
    let n = dominance_of next in
    let o = dominance_of opposite in
    let p = dominance_of prev in
    idle_flags (above d f0) (le n f0 && le p f0 || above (d ⊕ o) (n ⊕ p)) (not (vote_of n o p d)) (not (vote_of p d n o)) (above own.1 f0)
    (vote_of o p d n || above (opposite.1 ⊕ own.1) (next.1 ⊕ prev.1))
    (lt_zero (zero f0 tt) (add_zero (twice_zero z1) (neg_zero (add_zero z0 z2)))) (lt_zero (zero f0 tt) z1)

each : (a b c d : Bool) → (a && b && c && d) ≡ true → T a × T b × T c × T d
each true true true true e = (tt, tt, tt, tt)
each true true true false e = absurd (subst T (sym e) tt)
each true true false d e = absurd (subst T (sym e) tt)
each true false c d e = absurd (subst T (sym e) tt)
each false b c d e = absurd (subst T (sym e) tt)

-- weights tl t tr l c r bl b br
pub weightless_idle : (tl t tr l c r bl b br : Weights) → weightless_of c ≡ true
    → active_corners tl t tr l c r bl b br ≡ record { a0 = false; a1 = false; a2 = false; a3 = false }
unfolding active_corners suppress_of weightless_of
weightless_idle tl t tr l c r bl b br e =
    let h = each (eq c.w0 f0) (eq c.w1 f0) (eq c.w2 f0) (eq c.w3 f0) e in
    let z0 = zero c.w0 h.0 in
    let z1 = zero c.w1 h.1 in
    let z2 = zero c.w2 h.2 in
    let z3 = zero c.w3 h.3 in
    rw (
      idle (at0 c) (at1 l) (at2 tl) (at3 t) z3 z0 z1,
      idle (at1 c) (at2 t) (at3 tr) (at0 r) z0 z1 z2,
      idle (at2 c) (at3 r) (at0 br) (at1 b) z1 z2 z3,
      idle (at3 c) (at0 b) (at1 bl) (at2 l) z2 z3 z0,
    )

pub number_zero : (d a b : Pair) → T (eq a.0 f0) → T (eq a.1 f0) → T (eq b.0 f0) → T (eq b.1 f0) → number_of false d a b ≡ 0
unfolding number_of
number_zero d a b a0 a1 b0 b1 =
    let h = min_zero (zero a.0 a0) (zero b.0 b0) in
    let v = min_zero (zero a.1 a1) (zero b.1 b1) in
    rw (lt_zero h v, lt_zero v h, lt_zero (add_zero v (zero a.1 a1)) (add_zero h (zero a.0 a0)))
