-- What `Claims.antt` says of the junction numbers of a pixel. Assumes nothing.
use Rattle.std.specs.Prelude.{◌≡◌, refl, Bool, true, false, ◌&&◌, ◌+◌, ◌/◌, ◌%◌, ◌<◌, ◌≤◌, T}
use Rattle.std.proofs.Common.{subst, lit<, lit≤}
use Rattle.std.specs.Float.Ieee.{add, sub, mul, div, lt, le, to_unsigned}
use Rattle.metric.specs.declared.Metric.{Metric}
use Rattle.metric.specs.declared.Pair.{Pair}
use Rattle.metric.specs.declared.Weights.{Weights}
use Rattle.single.specs.Single.{◌⊕◌, max_of, min_of}
use Rattle.junction.specs.Junction.{dominance, junction_condition, majority_vote, inject}
use Rattle.junction.specs.Junction.{suppress, active_of, packed, packed_of, arbitrate_junctions}
use Rattle.junction.specs.Claims.{Number, decoded, Recovered, JunctionLaws}
use Rattle.active_corners.specs.Active.{above, active_corners}
use Rattle.junction.specs.Flags.{bit, pair, condition_of, number_of, numbers_of}
use Rattle.junction.proofs.Same.{every, flagged, source, horizontal, vertical, orientation}
use Rattle.junction.proofs.Same.{active_0, active_1, active_2, active_3, packed_same, same}
use Rattle.single.specs.Order.{lt_asym, level_lt}

-- the digits of a number
record Digits (a h v o : Bool) : Type 0 where
  small : bit a 1 + bit h 2 + bit v 4 + bit o 8 < 16
  horizontal : (bit a 1 + bit h 2 + bit v 4 + bit o 8) / 2 % 2 ≡ bit h 1
  vertical : (bit a 1 + bit h 2 + bit v 4 + bit o 8) / 4 % 2 ≡ bit v 1

digits : (a h v o : Bool) → Digits a h v o
digits = every Digits (search lit<)

not_both_flags : (l g j : Bool) → (l && g) ≡ false → bit (l && j) 1 + bit (g && j) 1 ≤ 1
not_both_flags true true j e = absurd (subst T e tt)
not_both_flags true false true e = lit≤ tt
not_both_flags true false false e = lit≤ tt
not_both_flags false true true e = lit≤ tt
not_both_flags false true false e = lit≤ tt
not_both_flags false false j e = lit≤ tt

number_is : (active : Bool) (d a b : Pair) → Number (min_of a.0 b.0) (min_of a.1 b.1) (number_of active d a b)
unfolding number_of
number_is active d a b =
    let h = min_of a.0 b.0 in
    let v = min_of a.1 b.1 in
    let j = condition_of d a b in
    let n = digits active (lt h v && j) (above h v && j) (above (h ⊕ a.0) (v ⊕ a.1)) in
    record {
      small = n.small;
      not_both = rw (n.horizontal, n.vertical) (not_both_flags (lt h v) (above h v) j (lt_asym h v));
      neither = λ e. rw (n.horizontal, n.vertical, (level_lt h v e).0, (level_lt h v e).1);
    }

abbrev Recovers : Bool → Bool → Bool → Bool → Type 0
Recovers a h v o = Recovered (flagged a h v o)

recovers : (a h v o : Bool) → Recovers a h v o
unfolding decoded add mul div to_unsigned
recovers =
    every Recovers (
      (((search, search), (search, search)), ((search, search), (search, search))),
      (((search, search), (search, search)), ((search, search), (search, search))),
    )

recovered_at : (active : Bool) (d a b : Pair) → Recovered (source active d a b)
recovered_at active d a b =
    rw (packed_same active d a b) (recovers active (horizontal active d a b) (vertical active d a b) (orientation active d a b))

-- metrics tl t l c r bl b br; weights tl t tr l c r bl b br
module _ (mtl mt ml mc mr mbl mb mbr : Metric) (stl st str sl sc sr sbl sb sbr : Weights) where
  pub numbers : let q = arbitrate_junctions mtl mt ml mc mr mbl mb mbr stl st str sl sc sr sbl sb sbr in
      Number (min_of ml.r mtl.r) (min_of mc.t ml.t) q.n0
      × Number (min_of mc.r mt.r) (min_of mc.t mr.t) q.n1
      × Number (min_of mc.r mb.r) (min_of mb.t mbr.t) q.n2
      × Number (min_of ml.r mbl.r) (min_of mb.t mbl.t) q.n3
  unfolding numbers_of
  numbers =
      let k = active_corners stl st str sl sc sr sbl sb sbr in
      rw (same mtl mt ml mc mr mbl mb mbr stl st str sl sc sr sbl sb sbr) (
        number_is k.a0 (pair ml.tr mc.tl) (pair ml.r mc.t) (pair mtl.r ml.t),
        number_is k.a1 (pair mr.tl mc.tr) (pair mc.r mc.t) (pair mt.r mr.t),
        number_is k.a2 (pair mb.tr mbr.tl) (pair mc.r mb.t) (pair mb.r mbr.t),
        number_is k.a3 (pair mb.tl mbl.tr) (pair ml.r mb.t) (pair mbl.r mbl.t),
      )

  pub recovered : let p = packed_of mtl mt ml mc mr mbl mb mbr (active_of stl st str sl sc sr sbl sb sbr) in
      Recovered (p 0) × Recovered (p 1) × Recovered (p 2) × Recovered (p 3)
  unfolding packed_of
  recovered =
      let k = active_corners stl st str sl sc sr sbl sb sbr in
      rw (
        active_0 stl st str sl sc sr sbl sb sbr,
        active_1 stl st str sl sc sr sbl sb sbr,
        active_2 stl st str sl sc sr sbl sb sbr,
        active_3 stl st str sl sc sr sbl sb sbr,
      ) (
        recovered_at k.a0 (pair ml.tr mc.tl) (pair ml.r mc.t) (pair mtl.r ml.t),
        recovered_at k.a1 (pair mr.tl mc.tr) (pair mc.r mc.t) (pair mt.r mr.t),
        recovered_at k.a2 (pair mb.tr mbr.tl) (pair mc.r mb.t) (pair mb.r mbr.t),
        recovered_at k.a3 (pair mb.tl mbl.tr) (pair ml.r mb.t) (pair mbl.r mbl.t),
      )

pub junction_laws : JunctionLaws
unfolding arbitrate_junctions packed_of packed active_of suppress inject majority_vote junction_condition dominance max_of min_of add sub mul lt
    le to_unsigned
junction_laws = record { numbers = numbers; recovered = recovered; lone = refl }
