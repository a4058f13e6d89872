-- The active corners of a pixel on flags, as the code computes them: `and` for a product, `or` for a sum cut at 1.0, `not` for `inv`.
-- A junction is seen from one of its corners: `own`, and around it `next`, `opposite` and `prev`; a corner is a weight
-- between those before and after it. Definitions only.
use Rattle.std.specs.Prelude.{Bool, not, ◌&&◌, ◌||◌, Float}
use Rattle.std.specs.Float.Ieee.{lt, le, eq}
use Rattle.metric.specs.declared.Weights.{Weights}
use Rattle.single.specs.Single.{f0, f2, ◌⊕◌, ◌⊖◌, ◌⊗◌}
use Rattle.active_corners.specs.declared.Triple.{Triple}
use Rattle.active_corners.specs.declared.Corner.{Corner}
use Rattle.active_corners.specs.declared.Active.{Active}

-- a > b
abbrev pub above : Float → Float → Bool
above a b = lt b a

unfoldable pub dominance_of : Triple → Float
dominance_of a = f2 ⊗ a.1 ⊖ (a.0 ⊕ a.2)

unfoldable pub vote_of : Float → Float → Float → Float → Bool
vote_of own next opposite prev = above own f0 && (le next f0 && le prev f0 || above (own ⊕ opposite) (next ⊕ prev))

-- vote[ci], and active before the suppression
unfoldable pub inject_of : Triple → Triple → Triple → Triple → Corner
inject_of own next opposite prev =
    let d = dominance_of own in
    let dn = dominance_of next in
    let do' = dominance_of opposite in
    let dp = dominance_of prev in
    let v = vote_of d dn do' dp in
    record {
      vote = v;
      active =
          v
          || (not (vote_of dn do' dp d)
          && not (vote_of dp d dn do')
          && above own.1 f0
          && (vote_of do' dp d dn || above (opposite.1 ⊕ own.1) (next.1 ⊕ prev.1)));
    }

-- end-of-line suppression, on the corners as they were before it
unfoldable pub suppress_of : Corner → Corner → Corner → Corner → Active
suppress_of k0 k1 k2 k3 = record {
  a0 = k0.active && (k0.vote || not (k3.active && k1.active));
  a1 = k1.active && (k1.vote || not (k0.active && k2.active));
  a2 = k2.active && (k2.vote || not (k1.active && k3.active));
  a3 = k3.active && (k3.vote || not (k2.active && k0.active));
}

-- corner k of a pixel
abbrev pub at0 : Weights → Triple
at0 s = record { 0 = s.w3; 1 = s.w0; 2 = s.w1 }

abbrev pub at1 : Weights → Triple
at1 s = record { 0 = s.w0; 1 = s.w1; 2 = s.w2 }

abbrev pub at2 : Weights → Triple
at2 s = record { 0 = s.w1; 1 = s.w2; 2 = s.w3 }

abbrev pub at3 : Weights → Triple
at3 s = record { 0 = s.w2; 1 = s.w3; 2 = s.w0 }

-- a pixel whose weights are 0.0, of either sign
unfoldable pub weightless_of : Weights → Bool
weightless_of c = eq c.w0 f0 && eq c.w1 f0 && eq c.w2 f0 && eq c.w3 f0

-- weights tl t tr l c r bl b br
unfoldable pub active_corners : Weights → Weights → Weights → Weights → Weights → Weights → Weights → Weights → Weights → Active
active_corners tl t tr l c r bl b br =
    suppress_of
    (inject_of (at0 c) (at1 l) (at2 tl) (at3 t))
    (inject_of (at1 c) (at2 t) (at3 tr) (at0 r))
    (inject_of (at2 c) (at3 r) (at0 br) (at1 b))
    (inject_of (at3 c) (at0 b) (at1 bl) (at2 l))
