-- What the code computes for four corners at once are the tags of `trace_edges`. Assumes nothing.
use mathlib.Core.Path.{◌≡◌, refl, ◌∙◌, ap}
use mathlib.Core.Bool.{Bool, true, false, cond, ◌||◌}
use Prim.Native.Nat.{ℕ, ◌+◌, ◌*◌, ◌%◌, ◌≤◌}
use native.Mathlib.Nat.{mod-eq_of_lt}
use native.Mathlib.Omega.{arith}
use Rattle.junction.specs.declared.Junctions.{Junctions}
use Rattle.lanes.specs.declared.Pair.{Pair}
use Rattle.lanes.specs.Lanes.{lanes, word_of}
use Rattle.lanes.proofs.Laws.{byte0, byte1, byte2, byte3}
use Rattle.lanes.proofs.Laws.{across_lanes, down_lanes, opposite_lanes, beside_lanes, above_lanes, own_lanes, after_lanes}
use Rattle.lanes.proofs.Laws.{and_flags, or_flags, not_flags, choose_flags}
use Rattle.tag.specs.declared.Neighbors.{Neighbors}
use Rattle.tag.specs.Tag.{when◌then◌else◌, decode_flags, corner_tag, mid_tag, trace_flags, trace_edges}
use Rattle.tag.proofs.Ranges.{corner_le, mid_le, packed}
use Rattle.tag.specs.Words.{around_of, level2_of, level3_of, level4_near, level4_of, level5_of, level6_of}
use Rattle.tag.specs.Words.{far_corners, far_mids, far_of, corners_of, both_of, mids_of, tags_word, split_of}
use Rattle.tag.proofs.Flags.{actives, horizontals, verticals, orientations}

-- the neighbours, corner by corner
abbrev pub sides : Junctions → Junctions → Junctions → Junctions → Neighbors
sides l r u d = record {
  hs = lanes l.n0 r.n1 r.n2 l.n3;
  ho = lanes r.n0 l.n1 l.n2 r.n3;
  vs = lanes u.n0 u.n1 d.n2 d.n3;
  vo = lanes d.n0 d.n1 u.n2 u.n3;
}

pub around_sides : (l r u d : Junctions) → around_of l r u d ≡ sides l r u d
unfolding around_of
around_sides l r u d = rw (beside_lanes, beside_lanes, above_lanes, above_lanes)

or_assoc : (a b c : Bool) → a || (b || c) ≡ a || b || c
or_assoc true b c = refl
or_assoc false b c = refl

-- two branches taken together
joined : (a b : Bool) (x y z w : ℕ) → cond (a || b) (cond a x (cond b y z)) w ≡ cond a x (cond b y w)
joined true b x y z w = refl
joined false true x y z w = refl
joined false false x y z w = refl

-- c + 9m in each byte
sum : (c0 c1 c2 c3 m0 m1 m2 m3 : ℕ) → c0 ≤ 8 → c1 ≤ 8 → c2 ≤ 8 → c3 ≤ 8 → m0 ≤ 8 → m1 ≤ 8 → m2 ≤ 8 → m3 ≤ 8
    → (lanes c0 c1 c2 c3 + 9 * lanes m0 m1 m2 m3) % 4294967296 ≡ lanes (c0 + 9 * m0) (c1 + 9 * m1) (c2 + 9 * m2) (c3 + 9 * m3)
unfolding lanes
sum c0 c1 c2 c3 m0 m1 m2 m3 h0 h1 h2 h3 k0 k1 k2 k3 =
    let s : (n : ℕ) → n ≤ 8 → n % 256 ≡ n = λ n e. mod-eq_of_lt (omega arith) in
    let t : (n k : ℕ) → n ≤ 8 → k ≤ 8 → (n + 9 * k) % 256 ≡ n + 9 * k = λ n k e f. mod-eq_of_lt (omega arith) in
    rw (s c0 h0, s c1 h1, s c2 h2, s c3 h3, s m0 k0, s m1 k1, s m2 k2, s m3 k3, t c0 m0 h0 k0, t c1 m1 h1 k1, t c2 m2 h2 k2, t c3 m3 h3 k3)
    (mod-eq_of_lt {n = ((c3 * 256 + c2) * 256 + c1) * 256 + c0 + 9 * (((m3 * 256 + m2) * 256 + m1) * 256 + m0)} (omega arith) ∙ omega arith)

parted : (a b c d : ℕ) → a ≤ 80 → b ≤ 80 → c ≤ 80 → d ≤ 80 → split_of (lanes a b c d) ≡ record { t0 = a; t1 = b; t2 = c; t3 = d }
unfolding split_of
parted a b c d ha hb hc hd =
    let s : (n : ℕ) → n ≤ 80 → n % 256 ≡ n = λ n e. mod-eq_of_lt (omega arith) in
    rw (byte0 a b c d, byte1 a b c d, byte2 a b c d, byte3 a b c d, s a ha, s b hb, s c hc, s d hd)

module _ (e dl dl2 dl3 dr dr2 dr3 du du2 du3 dd dd2 dd3 : Junctions) where
  abbrev n : Neighbors
  n = sides dl dr du dd

  abbrev n2 : Neighbors
  n2 = sides dl2 dr2 du2 dd2

  abbrev n3 : Neighbors
  n3 = sides dl3 dr3 du3 dd3

  abbrev l4 : Pair
  l4 = level4_of (level4_near (word_of e) n) n2

  abbrev l5 : Pair
  l5 = level5_of l4 n2 n3

  abbrev c : ℕ → ℕ
  c = corner_tag (decode_flags e) (decode_flags dl) (decode_flags dl2) (decode_flags dl3) (decode_flags dr) (decode_flags dr2) (decode_flags dr3)
      (decode_flags du) (decode_flags du2) (decode_flags du3) (decode_flags dd) (decode_flags dd2) (decode_flags dd3)

  abbrev m : ℕ → ℕ
  m = mid_tag (decode_flags e) (decode_flags dl) (decode_flags dl2) (decode_flags dl3) (decode_flags dr) (decode_flags dr2) (decode_flags dr3)
      (decode_flags du) (decode_flags du2) (decode_flags du3) (decode_flags dd) (decode_flags dd2) (decode_flags dd3)

  corner_tags : corners_of (word_of e) (level3_of (level2_of (word_of e) n) n) (far_corners n l4 (level6_of l5 n3)) ≡ lanes (c 0) (c 1) (c 2) (c 3)
  unfolding corners_of far_corners level2_of level3_of level4_near level4_of level5_of level6_of corner_tag when◌then◌else◌
  corner_tags =
      simp (
        actives,
        horizontals,
        verticals,
        orientations,
        across_lanes,
        down_lanes,
        opposite_lanes,
        and_flags,
        or_flags,
        not_flags,
        choose_flags,
        or_assoc,
      )

  mid_tags : mids_of (word_of e) (level2_of (word_of e) n) n (far_mids n l5) ≡ lanes (m 0) (m 1) (m 2) (m 3)
  unfolding mids_of both_of far_mids level2_of level4_near level4_of level5_of mid_tag when◌then◌else◌
  mid_tags =
      simp (
        actives,
        horizontals,
        verticals,
        orientations,
        across_lanes,
        down_lanes,
        opposite_lanes,
        own_lanes,
        after_lanes,
        above_lanes,
        and_flags,
        or_flags,
        not_flags,
        choose_flags,
        or_assoc,
        joined,
      )

  pub same : split_of (tags_word (word_of e) n (far_of (level4_near (word_of e) n) n n2 n3)) ≡ trace_edges e dl dl2 dl3 dr dr2 dr3 du du2 du3 dd dd2 dd3
  unfolding tags_word far_of trace_edges trace_flags
  same =
      let h : (i : ℕ) → c i ≤ 8 = λ i. corner_le _ _ _ _ _ _ _ _ _ _ _ _ _ i in
      let k : (i : ℕ) → m i ≤ 8 = λ i. mid_le _ _ _ _ _ _ _ _ _ _ _ _ _ i in
      let r : (i : ℕ) → c i + 9 * m i ≤ 80 = λ i. (packed (c i) (m i) (h i) (k i)).range in
      rw (corner_tags, mid_tags)
      (ap split_of (sum (c 0) (c 1) (c 2) (c 3) (m 0) (m 1) (m 2) (m 3) (h 0) (h 1) (h 2) (h 3) (k 0) (k 1) (k 2) (k 3))
      ∙ parted (c 0 + 9 * m 0) (c 1 + 9 * m 1) (c 2 + 9 * m 2) (c 3 + 9 * m 3) (r 0) (r 1) (r 2) (r 3))
