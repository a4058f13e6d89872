-- The source's junction number, on the singles 0.0 and 1.0, is the one that the flags give. Assumes nothing.
use Rattle.std.specs.Prelude.{◌≡◌, refl, Bool, true, false, not, cond, ◌&&◌, ◌||◌, ℕ, ◌+◌, Float}
use Rattle.std.proofs.Common.{◌∙◌}
use Rattle.std.proofs.Math.Path.{ap}
use Rattle.std.specs.Int.Bits.{bit_and}
use Rattle.std.specs.Float.Ieee.{add, sub, mul, lt, le, to_unsigned}
use Rattle.metric.specs.declared.Metric.{Metric}
use Rattle.metric.specs.declared.Pair.{Pair}
use Rattle.metric.specs.declared.Weights.{Weights}
use Rattle.single.specs.Single.{f0, f1, f2, f4, f8, ◌⊕◌, ◌⊗◌, min_of}
use Rattle.active_corners.specs.declared.Triple.{Triple}
use Rattle.active_corners.specs.declared.Corner.{Corner}
use Rattle.active_corners.specs.Active.{above, dominance_of, vote_of, inject_of, suppress_of, at0, at1, at2, at3, active_corners}
use Rattle.junction.specs.Junction.{inv, two, three, four, dominance, junction_condition, majority_vote}
use Rattle.junction.specs.Junction.{inject, suppress, active_of, packed, packed_of, number, arbitrate_junctions}
use Rattle.junction.specs.Flags.{bit, pair, condition_of, number_of, numbers_of}

-- a flag as the source's single, and the source's sum of four of them
abbrev pub fl : Bool → Float
fl t = cond t f1 f0

abbrev pub flagged : Bool → Bool → Bool → Bool → Float
flagged active horiz vert orient = fl active ⊕ f2 ⊗ fl horiz ⊕ f4 ⊗ fl vert ⊕ f8 ⊗ fl orient

-- ---- a statement on flags, by computing its sixteen cases
abbrev Both : (Bool → Type 0) → Type 0
Both P = P true × P false

either : (P : Bool → Type 0) → Both P → (b : Bool) → P b
either P p true = p.0
either P p false = p.1

pub every : (P : Bool → Bool → Bool → Bool → Type 0) → Both (λ a. Both (λ b. Both (λ c. Both (P a b c)))) → (a b c d : Bool) → P a b c d
every P p a b c =
    either (P a b c) (either (λ x. Both (P a b x))
    (either (λ x. Both (λ y. Both (P a x y))) (either (λ x. Both (λ y. Both (λ z. Both (P x y z)))) p a) b) c)

-- ---- the expressions on 0.0 and 1.0
and_flags : (a b : Bool) → fl a ⊗ fl b ≡ fl (a && b)
unfolding mul
and_flags true true = refl
and_flags true false = refl
and_flags false true = refl
and_flags false false = refl

not_flags : (a : Bool) → inv (fl a) ≡ fl (not a)
unfolding sub
not_flags true = refl
not_flags false = refl

abbrev Injects : Bool → Bool → Bool → Bool → Type 0
Injects v f o g = min_of (fl v ⊕ fl f ⊗ (fl o ⊕ fl g)) f1 ≡ fl (v || (f && (o || g)))

inject_flags : (v f o g : Bool) → Injects v f o g
unfolding min_of add mul lt
inject_flags = every Injects search

-- a vote and the suppression: a product, cut at 1.0
abbrev Cuts : Bool → Bool → Bool → Type 0
Cuts a b c = min_of (fl a ⊗ (fl b ⊕ fl c)) f1 ≡ fl (a && (b || c))

cut_flags : (a b c : Bool) → Cuts a b c
unfolding min_of add mul lt
cut_flags a b c = every (λ x y z w. Cuts x y z) (search) a b c true

abbrev Numbers : Bool → Bool → Bool → Bool → Type 0
Numbers a h v o = number (flagged a h v o) ≡ bit a 1 + bit h 2 + bit v 4 + bit o 8

number_flags : (a h v o : Bool) → Numbers a h v o
unfolding add mul to_unsigned
number_flags = every Numbers search

-- ---- votes, active corners and the suppression
-- the votes of a junction whose dominances are dom, each seen from its own corner
voted : (ℕ → Float) → ℕ → Bool
voted dom i = vote_of (dom i) (dom (bit_and (i + 1) 3)) (dom (bit_and (i + 2) 3)) (dom (bit_and (i + 3) 3))

vote_same : (dom : ℕ → Float) (i : ℕ) → majority_vote dom i ≡ fl (voted dom i)
unfolding majority_vote vote_of voted
vote_same dom i =
    let own = above (dom i) f0 in
    let next = le (dom (bit_and (i + 1) 3)) f0 in
    let prev = le (dom (bit_and (i + 3) 3)) f0 in
    rw (and_flags next prev)
    (cut_flags own (next && prev) (above (dom i ⊕ dom (bit_and (i + 2) 3)) (dom (bit_and (i + 1) 3) ⊕ dom (bit_and (i + 3) 3))))

injected : (ℕ → Bool) → (ℕ → Float) → ℕ → Bool
injected vote stren ci =
    let left = bit_and (ci + 1) 3 in
    let right = bit_and (ci + 3) 3 in
    let opposite = bit_and (ci + 2) 3 in
    vote ci || (not (vote left) && not (vote right) && above (stren ci) f0
    && (vote opposite || above (stren opposite ⊕ stren ci) (stren left ⊕ stren right)))

inject_same : (dom stren : ℕ → Float) (ci : ℕ) → inject (majority_vote dom) stren ci ≡ fl (injected (voted dom) stren ci)
unfolding inject injected
inject_same dom stren ci =
    let left = bit_and (ci + 1) 3 in
    let right = bit_and (ci + 3) 3 in
    let opposite = bit_and (ci + 2) 3 in
    let l = not (voted dom left) in
    let r = not (voted dom right) in
    let s = above (stren ci) f0 in
    rw (
      vote_same dom ci,
      vote_same dom left,
      vote_same dom right,
      vote_same dom opposite,
      not_flags (voted dom left),
      not_flags (voted dom right),
      and_flags l r,
      and_flags (l && r) s,
    )
    (inject_flags (voted dom ci) (l && r && s) (voted dom opposite) (above (stren opposite ⊕ stren ci) (stren left ⊕ stren right)))

-- a corner k after the suppression, with the corners before and after it
suppress_same : (active adj : ℕ → Float) (i : ℕ) (k p n : Corner)
    → active i ≡ fl k.active → adj i ≡ fl k.vote → active (bit_and (i + 3) 3) ≡ fl p.active
    → active (bit_and (i + 1) 3) ≡ fl n.active
    → suppress active adj i ≡ fl (k.active && (k.vote || not (p.active && n.active)))
unfolding suppress
suppress_same active adj i k p n ea ev ep en =
    let both = p.active && n.active in
    rw (ea, ev, ep, en, and_flags p.active n.active, not_flags both) (cut_flags k.active k.vote (not both))

-- a junction from its four corners, in the source's order: the dominances and the strengths
module _ (a b c d : Triple) where
  doms : ℕ → Float
  doms = dominance (three a.0 a.1 a.2) (three b.0 b.1 b.2) (three c.0 c.1 c.2) (three d.0 d.1 d.2)

  strens : ℕ → Float
  strens = four a.1 b.1 c.1 d.1

  seen_0 : (majority_vote doms 0 ≡ fl (inject_of a b c d).vote) × (inject (majority_vote doms) strens 0 ≡ fl (inject_of a b c d).active)
  unfolding doms strens dominance inject_of dominance_of voted injected
  seen_0 = (vote_same doms 0, inject_same doms strens 0)

  seen_1 : (majority_vote doms 1 ≡ fl (inject_of b c d a).vote) × (inject (majority_vote doms) strens 1 ≡ fl (inject_of b c d a).active)
  unfolding doms strens dominance inject_of dominance_of voted injected
  seen_1 = (vote_same doms 1, inject_same doms strens 1)

  seen_2 : (majority_vote doms 2 ≡ fl (inject_of c d a b).vote) × (inject (majority_vote doms) strens 2 ≡ fl (inject_of c d a b).active)
  unfolding doms strens dominance inject_of dominance_of voted injected
  seen_2 = (vote_same doms 2, inject_same doms strens 2)

  seen_3 : (majority_vote doms 3 ≡ fl (inject_of d a b c).vote) × (inject (majority_vote doms) strens 3 ≡ fl (inject_of d a b c).active)
  unfolding doms strens dominance inject_of dominance_of voted injected
  seen_3 = (vote_same doms 3, inject_same doms strens 3)

-- weights tl t tr l c r bl b br: the four corners of c, by the source's order of a junction and by theirs
module _ (tl t tr l c r bl b br : Weights) where
  abbrev k0 : Corner
  k0 = inject_of (at0 c) (at1 l) (at2 tl) (at3 t)

  abbrev k1 : Corner
  k1 = inject_of (at1 c) (at2 t) (at3 tr) (at0 r)

  abbrev k2 : Corner
  k2 = inject_of (at2 c) (at3 r) (at0 br) (at1 b)

  abbrev k3 : Corner
  k3 = inject_of (at3 c) (at0 b) (at1 bl) (at2 l)

  pub active_0 : active_of tl t tr l c r bl b br 0 ≡ fl (active_corners tl t tr l c r bl b br).a0
  unfolding active_of active_corners suppress_of doms strens
  active_0 =
      let own = seen_2 (at2 tl) (at3 t) (at0 c) (at1 l) in
      suppress_same _ _ 0 k0 k3 k1 own.1 own.0 (seen_1 (at2 l) (at3 c) (at0 b) (at1 bl)).1
      (seen_3 (at2 t) (at3 tr) (at0 r) (at1 c)).1

  pub active_1 : active_of tl t tr l c r bl b br 1 ≡ fl (active_corners tl t tr l c r bl b br).a1
  unfolding active_of active_corners suppress_of doms strens
  active_1 =
      let own = seen_3 (at2 t) (at3 tr) (at0 r) (at1 c) in
      suppress_same _ _ 1 k1 k0 k2 own.1 own.0 (seen_2 (at2 tl) (at3 t) (at0 c) (at1 l)).1
      (seen_0 (at2 c) (at3 r) (at0 br) (at1 b)).1

  pub active_2 : active_of tl t tr l c r bl b br 2 ≡ fl (active_corners tl t tr l c r bl b br).a2
  unfolding active_of active_corners suppress_of doms strens
  active_2 =
      let own = seen_0 (at2 c) (at3 r) (at0 br) (at1 b) in
      suppress_same _ _ 2 k2 k1 k3 own.1 own.0 (seen_3 (at2 t) (at3 tr) (at0 r) (at1 c)).1
      (seen_1 (at2 l) (at3 c) (at0 b) (at1 bl)).1

  pub active_3 : active_of tl t tr l c r bl b br 3 ≡ fl (active_corners tl t tr l c r bl b br).a3
  unfolding active_of active_corners suppress_of doms strens
  active_3 =
      let own = seen_1 (at2 l) (at3 c) (at0 b) (at1 bl) in
      suppress_same _ _ 3 k3 k2 k0 own.1 own.0 (seen_0 (at2 c) (at3 r) (at0 br) (at1 b)).1
      (seen_2 (at2 tl) (at3 t) (at0 c) (at1 l)).1

-- ---- the number of a corner, of its diagonal d, orth_a and orth_b
module _ (active : Bool) (d a b : Pair) where
  abbrev pub h_edge : Float
  h_edge = min_of a.0 b.0

  abbrev pub v_edge : Float
  v_edge = min_of a.1 b.1

  abbrev pub source : Float
  source = packed (fl active) (junction_condition (two d.0 d.1) (two a.0 a.1) (two b.0 b.1)) h_edge v_edge a.0 a.1

  abbrev pub horizontal : Bool
  horizontal = lt h_edge v_edge && condition_of d a b

  abbrev pub vertical : Bool
  vertical = above h_edge v_edge && condition_of d a b

  abbrev pub orientation : Bool
  orientation = above (h_edge ⊕ a.0) (v_edge ⊕ a.1)

  pub packed_same : source ≡ flagged active horizontal vertical orientation
  unfolding packed junction_condition condition_of
  packed_same = rw (and_flags (lt h_edge v_edge) (condition_of d a b), and_flags (above h_edge v_edge) (condition_of d a b))

  number_same : number source ≡ number_of active d a b
  unfolding number_of
  number_same = ap number packed_same ∙ number_flags active horizontal vertical orientation

-- metrics tl t l c r bl b br; weights tl t tr l c r bl b br
pub same : (mtl mt ml mc mr mbl mb mbr : Metric) (stl st str sl sc sr sbl sb sbr : Weights)
    → arbitrate_junctions mtl mt ml mc mr mbl mb mbr stl st str sl sc sr sbl sb sbr
    ≡ numbers_of mtl mt ml mc mr mbl mb mbr (active_corners stl st str sl sc sr sbl sb sbr)
unfolding arbitrate_junctions packed_of numbers_of
same mtl mt ml mc mr mbl mb mbr stl st str sl sc sr sbl sb sbr =
    let k = active_corners stl st str sl sc sr sbl sb sbr in
    rw (
      active_0 stl st str sl sc sr sbl sb sbr,
      active_1 stl st str sl sc sr sbl sb sbr,
      active_2 stl st str sl sc sr sbl sb sbr,
      active_3 stl st str sl sc sr sbl sb sbr,
      number_same k.a0 (pair ml.tr mc.tl) (pair ml.r mc.t) (pair mtl.r ml.t),
      number_same k.a1 (pair mr.tl mc.tr) (pair mc.r mc.t) (pair mt.r mr.t),
      number_same k.a2 (pair mb.tr mbr.tl) (pair mc.r mb.t) (pair mb.r mbr.t),
      number_same k.a3 (pair mb.tl mbl.tr) (pair ml.r mb.t) (pair mbl.r mbl.t),
    )
