-- The tags of a pixel as the code computes them: the source's levels, for the four corners at once. Definitions only.
-- `proofs/Same.antt` shows that these are the tags of `trace_edges`.
use Rattle.std.specs.Prelude.{Bool, true, false, cond, Option, Some, None, ℕ, ◌+◌, ◌*◌, ◌/◌, ◌%◌, eqb}
use Rattle.std.specs.Int.Bits.{bit_and, bit_or, bit_xor}
use Rattle.junction.specs.declared.Junctions.{Junctions}
use Rattle.lanes.specs.declared.Pair.{Pair}
use Rattle.lanes.specs.Lanes.{lanes, word_of, ones, across, down, opposite, beside, above, own, after, choose}
use Rattle.tag.specs.declared.Tags.{Tags}
use Rattle.tag.specs.declared.Neighbors.{Neighbors}
use Rattle.tag.specs.declared.FarCorners.{FarCorners}
use Rattle.tag.specs.declared.FarMids.{FarMids}
use Rattle.tag.specs.declared.Far.{Far}
use Rattle.tag.specs.Tag.{CENTER, LEFT, LEFT2, RIGHT, RIGHT2, UP, UP2, DOWN, DOWN2}

infixl 35 ◌and◌
infixl 30 ◌or◌
abbrev pub ◌and◌ : ℕ → ℕ → ℕ
a and b = bit_and a b

abbrev pub ◌or◌ : ℕ → ℕ → ℕ
a or b = bit_or a b

-- a word of flags, each the other way
abbrev pub flip : ℕ → ℕ
flip x = bit_xor x ones

-- a word of flags of a word of junction numbers
abbrev pub actives : ℕ → ℕ
actives x = bit_and x ones

abbrev pub horizontals : ℕ → ℕ
horizontals x = bit_and (x / 2) ones

abbrev pub verticals : ℕ → ℕ
verticals x = bit_and (x / 4) ones

abbrev pub orientations : ℕ → ℕ
orientations x = bit_and (x / 8) ones

-- the neighbours left, right, above and below
unfoldable pub around_of : Junctions → Junctions → Junctions → Junctions → Neighbors
around_of l r u d = record {
  hs = beside (word_of l) (word_of r);
  ho = beside (word_of r) (word_of l);
  vs = above (word_of u) (word_of d);
  vo = above (word_of d) (word_of u);
}

-- Along the top and the bottom a level goes by the horizontal flags and to the corner across, along the left and the right by the vertical
-- flags and to the corner below or above.
unfoldable pub level2_of : ℕ → Neighbors → Pair
level2_of e n = record {
  h = actives e and across (horizontals e) and opposite (actives n.ho);
  v = actives e and down (verticals e) and opposite (actives n.vo);
}

unfoldable pub level3_of : Pair → Neighbors → Pair
level3_of p n = record {
  h = across p.h and across (horizontals n.ho) and horizontals n.hs and opposite (horizontals n.hs);
  v = down p.v and down (verticals n.vo) and verticals n.vs and opposite (verticals n.vs);
}

-- level 4, but for what lies two pixels away
unfoldable pub level4_near : ℕ → Neighbors → Pair
level4_near e n = record {
  h =
      actives n.hs and across (horizontals n.ho) and horizontals e and across (horizontals e) and horizontals n.ho
      and across (horizontals n.hs);
  v =
      actives n.vs and down (verticals n.vo) and verticals e and down (verticals e) and verticals n.vo
      and down (verticals n.vs);
}

unfoldable pub level4_of : Pair → Neighbors → Pair
level4_of p n2 = record {
  h = p.h and opposite (actives n2.ho) and down (horizontals n2.hs);
  v = p.v and opposite (actives n2.vo) and across (verticals n2.vs);
}

unfoldable pub level5_of : Pair → Neighbors → Neighbors → Pair
level5_of p n2 n3 = record {
  h = p.h and horizontals n2.ho and across (horizontals n2.hs) and opposite (horizontals n3.ho) and down (horizontals n3.hs);
  v = p.v and verticals n2.vo and down (verticals n2.vs) and opposite (verticals n3.vo) and across (verticals n3.vs);
}

unfoldable pub level6_of : Pair → Neighbors → Pair
level6_of p n3 = record {
  h = across p.h and across (horizontals n3.ho) and horizontals n3.hs;
  v = down p.v and down (verticals n3.vo) and verticals n3.vs;
}

-- what the levels 4 and 6 give to the corner tags: the flags of the first two branches, and the tags of the last four
unfoldable pub far_corners : Neighbors → Pair → Pair → FarCorners
far_corners n l4 l6 =
    let h = orientations n.hs in
    let v = flip (orientations n.vs) in
    record {
      first = l4.h and h or l6.h and across h;
      second = l4.v and v or l6.v and down v;
      tag =
          choose l4.h (lanes LEFT2 RIGHT2 RIGHT2 LEFT2)
          (choose l4.v (lanes UP2 UP2 DOWN2 DOWN2)
          (choose l6.h (lanes RIGHT2 LEFT2 LEFT2 RIGHT2)
          (choose l6.v (lanes DOWN2 DOWN2 UP2 UP2) (lanes CENTER CENTER CENTER CENTER))));
    }

-- what level 5 gives to the mid-edge tags: the flags of the first branch, the flags and the tags of its own two
unfoldable pub far_mids : Neighbors → Pair → FarMids
far_mids n l5 =
    let o1 = own (orientations n.hs) (flip (orientations n.vs)) in
    let o2 = after (orientations n.hs) (flip (orientations n.vs)) in
    let x = own l5.h l5.v in
    let y = after l5.h l5.v in
    record {
      first = above x y and above o1 o2 or above y x and above o2 o1;
      any = above x y or above y x;
      tag =
          choose (above x y) (lanes LEFT2 UP2 LEFT2 UP2)
          (choose (above y x) (lanes RIGHT2 DOWN2 RIGHT2 DOWN2) (lanes CENTER CENTER CENTER CENTER));
    }

-- of level 4 but for what lies two pixels away, and the neighbours at the distances 1, 2 and 3
unfoldable pub far_of : Pair → Neighbors → Neighbors → Neighbors → Far
far_of p n n2 n3 =
    let l4 = level4_of p n2 in
    let l5 = level5_of l4 n2 n3 in
    record { corners = far_corners n l4 (level6_of l5 n3); mids = far_mids n l5 }

unfoldable pub corners_of : ℕ → Pair → FarCorners → ℕ
corners_of e l3 f =
    let c = actives e in
    let o = orientations e in
    choose (c and o or l3.h and across o or f.first) (lanes UP UP DOWN DOWN)
    (choose (c or l3.v and flip (down o) or f.second) (lanes LEFT RIGHT RIGHT LEFT)
    (choose l3.h (lanes RIGHT LEFT LEFT RIGHT)
    (choose l3.v (lanes DOWN DOWN UP UP) f.tag)))

-- the last branch of the mid-edge tags: both corners of the side are active, and so is the one across from each
unfoldable pub both_of : ℕ → Neighbors → ℕ → ℕ → ℕ
both_of e n o1 o2 =
    let c = actives e in
    let h = opposite (actives n.ho) in
    let v = opposite (actives n.vo) in
    choose (c and own h v and after c c and after h v)
    (choose o1 (choose o2 (lanes UP RIGHT DOWN LEFT) (lanes RIGHT DOWN LEFT UP)) (lanes LEFT UP RIGHT DOWN))
    (lanes CENTER CENTER CENTER CENTER)

-- the source's [i][0] is the side's own corner at the top and on the right, the one after it at the bottom and on the left
unfoldable pub mids_of : ℕ → Pair → Neighbors → FarMids → ℕ
mids_of e l2 n f =
    let o1 = own (orientations e) (flip (orientations e)) in
    let o2 = after (orientations e) (flip (orientations e)) in
    let x = own l2.h l2.v in
    let y = after l2.h l2.v in
    choose (above x y and above o1 o2 or above y x and above o2 o1 or f.first) (lanes UP RIGHT DOWN LEFT)
    (choose (above x y) (lanes LEFT UP LEFT UP)
    (choose (above y x) (lanes RIGHT DOWN RIGHT DOWN) (choose f.any f.tag (both_of e n o1 o2))))

-- c + 9m in each byte
unfoldable pub tags_word : ℕ → Neighbors → Far → ℕ
tags_word e n f =
    let l2 = level2_of e n in
    (corners_of e (level3_of l2 n) f.corners + 9 * mids_of e l2 n f.mids) % 4294967296

unfoldable pub split_of : ℕ → Tags
split_of t = record { t0 = t % 256; t1 = t / 256 % 256; t2 = t / 65536 % 256; t3 = t / 16777216 }

-- no flag but orientation
abbrev pub bare_of : Junctions → Bool
bare_of e = eqb (bit_and (word_of e) 0x07070707) 0

-- what the levels 4 to 6 give where no run of four passes
abbrev pub nothing : Far
nothing = record { corners = record { first = 0; second = 0; tag = 0 }; mids = record { first = 0; any = 0; tag = 0 } }

-- no run of four may pass: what lies two and three pixels away gives nothing
unfoldable pub known_of : ℕ → Neighbors → Bool
known_of e n = eqb ((level4_near e n).h or (level4_near e n).v) 0

-- the tags where the neighbours at distance 1 decide them, and 0 elsewhere, and whether they do
pub record Near : Type 0 where
  pub tags : Tags
  pub known : Bool

unfoldable pub near_of : Junctions → Junctions → Junctions → Junctions → Junctions → Near
near_of e l r u d =
    let n = around_of l r u d in
    record { tags = split_of (cond (known_of (word_of e) n) (tags_word (word_of e) n nothing) 0); known = known_of (word_of e) n }

-- what an answer says of them: the tags, or none where what lies farther away counts
abbrev pub near_answer : Option Tags → Near
near_answer (Some t) = record { tags = t; known = true }
near_answer None = record { tags = split_of 0; known = false }
