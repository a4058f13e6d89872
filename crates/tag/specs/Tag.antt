-- Section 5: the tag numbers of a pixel, `trace_edges` of scalefx.rs, and the nine offsets, `neighbor_offset`. Definitions only.
-- Names, levels and the order of the branches are the source's; an array is a function of its index, so that `l2[0][1]` reads `l2 0 1`.
-- What differs: the source divides each number by a constant (15 or 80) and recovers it by
-- `decode_flags` and `unpack_..`; here it stays whole.
use Rattle.std.specs.Prelude.{Bool, not, cond, ◌&&◌, ◌||◌, List, [], ◌∷◌, ℕ, zero, suc, ◌+◌, ◌*◌, ◌/◌, ◌%◌, eqb, pos, negsuc, get_or}
use Rattle.picture.specs.Picture.{near}
use Rattle.junction.specs.declared.Junctions.{Junctions}
use Rattle.tag.specs.declared.Tags.{Tags}
use Rattle.tag.specs.declared.Offset.{Offset}

-- the four flags of a junction number n = active + 2 horizontal + 4 vertical + 8 orientation
abbrev pub active : ℕ → Bool
active n = eqb (n % 2) 1

abbrev pub horizontal : ℕ → Bool
horizontal n = eqb (n / 2 % 2) 1

abbrev pub vertical : ℕ → Bool
vertical n = eqb (n / 4 % 2) 1

abbrev pub orientation : ℕ → Bool
orientation n = eqb (n / 8 % 2) 1

-- [a, b] and [a, b, c, d]
abbrev pub two : {A : Type 0} → A → A → ℕ → A
two a b zero = a
two a b (suc i) = b

abbrev pub four : {A : Type 0} → A → A → A → A → ℕ → A
four a b c d zero = a
four a b c d (suc zero) = b
four a b c d (suc (suc zero)) = c
four a b c d (suc (suc (suc i))) = d

-- `JunctionFlags`, and `decode_flags` of the four numbers of a pixel
pub record JunctionFlags : Type 0 where
  pub corner : ℕ → Bool
  pub horiz : ℕ → Bool
  pub vert : ℕ → Bool
  pub orient : ℕ → Bool

abbrev pub decode_flags : Junctions → JunctionFlags
decode_flags val = record {
  corner = four (active val.n0) (active val.n1) (active val.n2) (active val.n3);
  horiz = four (horizontal val.n0) (horizontal val.n1) (horizontal val.n2) (horizontal val.n3);
  vert = four (vertical val.n0) (vertical val.n1) (vertical val.n2) (vertical val.n3);
  orient = four (orientation val.n0) (orientation val.n1) (orientation val.n2) (orientation val.n3);
}

infixr 10 when◌then◌else◌
unfoldable pub when◌then◌else◌ : Bool → ℕ → ℕ → ℕ
when t then a else b = cond t a b

-- the tags: which neighbour fills a part of the block
abbrev pub CENTER : ℕ
CENTER = 0

abbrev pub LEFT : ℕ
LEFT = 1

abbrev pub LEFT2 : ℕ
LEFT2 = 2

abbrev pub RIGHT : ℕ
RIGHT = 3

abbrev pub RIGHT2 : ℕ
RIGHT2 = 4

abbrev pub UP : ℕ
UP = 5

abbrev pub UP2 : ℕ
UP2 = 6

abbrev pub DOWN : ℕ
DOWN = 7

abbrev pub DOWN2 : ℕ
DOWN2 = 8

-- Section 5's tag number t = c + 9m, c the corner tag and m the mid-edge tag of the same index
abbrev pub tag_number : ℕ → ℕ → ℕ
tag_number c m = c + 9 * m

-- `trace_edges` of one pixel: the flags of its own junctions, and of those to the left, right, above and below out to distance 3
module _ (e dl dl2 dl3 dr dr2 dr3 du du2 du3 dd dd2 dd3 : JunctionFlags) where
  -- level 1: the corner
  abbrev pub l1 : ℕ → Bool
  l1 = four (e.corner 0) (e.corner 1) (e.corner 2) (e.corner 3)

  -- level 2: the mid edge between two corners
  abbrev pub l2 : ℕ → ℕ → Bool
  l2 =
      four
      (two
      (e.corner 0 && e.horiz 1 && dl.corner 2)
      (e.corner 1 && e.horiz 0 && dr.corner 3))
      (two
      (e.corner 1 && e.vert 2 && du.corner 3)
      (e.corner 2 && e.vert 1 && dd.corner 0))
      (two
      (e.corner 3 && e.horiz 2 && dl.corner 1)
      (e.corner 2 && e.horiz 3 && dr.corner 0))
      (two
      (e.corner 0 && e.vert 3 && du.corner 2)
      (e.corner 3 && e.vert 0 && dd.corner 1))

  -- level 3: the corner beyond a level 2
  abbrev pub l3 : ℕ → ℕ → Bool
  l3 =
      four
      (two
      (l2 0 1 && dl.horiz 1 && dl.horiz 0 && dr.horiz 2)
      (l2 3 1 && du.vert 3 && du.vert 0 && dd.vert 2))
      (two
      (l2 0 0 && dr.horiz 0 && dr.horiz 1 && dl.horiz 3)
      (l2 1 1 && du.vert 2 && du.vert 1 && dd.vert 3))
      (two
      (l2 2 0 && dr.horiz 3 && dr.horiz 2 && dl.horiz 0)
      (l2 1 0 && dd.vert 1 && dd.vert 2 && du.vert 0))
      (two
      (l2 2 1 && dl.horiz 2 && dl.horiz 3 && dr.horiz 1)
      (l2 3 0 && dd.vert 0 && dd.vert 3 && du.vert 1))

  -- level 4: a run of four pixels
  abbrev pub l4 : ℕ → ℕ → Bool
  l4 =
      four
      (two
      (dl.corner 0 && dl.horiz 1 && e.horiz 0 && e.horiz 1 && dr.horiz 0 && dr.horiz 1 && dl2.corner 2 && dl2.horiz 3)
      (du.corner 0 && du.vert 3 && e.vert 0 && e.vert 3 && dd.vert 0 && dd.vert 3 && du2.corner 2 && du2.vert 1))
      (two
      (dr.corner 1 && dr.horiz 0 && e.horiz 1 && e.horiz 0 && dl.horiz 1 && dl.horiz 0 && dr2.corner 3 && dr2.horiz 2)
      (du.corner 1 && du.vert 2 && e.vert 1 && e.vert 2 && dd.vert 1 && dd.vert 2 && du2.corner 3 && du2.vert 0))
      (two
      (dr.corner 2 && dr.horiz 3 && e.horiz 2 && e.horiz 3 && dl.horiz 2 && dl.horiz 3 && dr2.corner 0 && dr2.horiz 1)
      (dd.corner 2 && dd.vert 1 && e.vert 2 && e.vert 1 && du.vert 2 && du.vert 1 && dd2.corner 0 && dd2.vert 3))
      (two
      (dl.corner 3 && dl.horiz 2 && e.horiz 3 && e.horiz 2 && dr.horiz 3 && dr.horiz 2 && dl2.corner 1 && dl2.horiz 0)
      (dd.corner 3 && dd.vert 0 && e.vert 3 && e.vert 0 && du.vert 3 && du.vert 0 && dd2.corner 1 && dd2.vert 2))

  -- level 5: the mid edge of a run of four
  abbrev pub l5 : ℕ → ℕ → Bool
  l5 =
      four
      (two
      (l4 0 0 && dr2.horiz 0 && dr2.horiz 1 && dl3.horiz 2 && dl3.horiz 3)
      (l4 1 0 && dl2.horiz 1 && dl2.horiz 0 && dr3.horiz 3 && dr3.horiz 2))
      (two
      (l4 1 1 && dd2.vert 1 && dd2.vert 2 && du3.vert 3 && du3.vert 0)
      (l4 2 1 && du2.vert 2 && du2.vert 1 && dd3.vert 0 && dd3.vert 3))
      (two
      (l4 3 0 && dr2.horiz 3 && dr2.horiz 2 && dl3.horiz 1 && dl3.horiz 0)
      (l4 2 0 && dl2.horiz 2 && dl2.horiz 3 && dr3.horiz 0 && dr3.horiz 1))
      (two
      (l4 0 1 && dd2.vert 0 && dd2.vert 3 && du3.vert 2 && du3.vert 1)
      (l4 3 1 && du2.vert 3 && du2.vert 0 && dd3.vert 1 && dd3.vert 2))

  -- level 6: a run of six pixels
  abbrev pub l6 : ℕ → ℕ → Bool
  l6 =
      four
      (two
      (l5 0 1 && dl3.horiz 1 && dl3.horiz 0)
      (l5 3 1 && du3.vert 3 && du3.vert 0))
      (two
      (l5 0 0 && dr3.horiz 0 && dr3.horiz 1)
      (l5 1 1 && du3.vert 2 && du3.vert 1))
      (two
      (l5 2 0 && dr3.horiz 3 && dr3.horiz 2)
      (l5 1 0 && dd3.vert 1 && dd3.vert 2))
      (two
      (l5 2 1 && dl3.horiz 2 && dl3.horiz 3)
      (l5 3 0 && dd3.vert 0 && dd3.vert 3))

  abbrev eo : ℕ → Bool
  eo = e.orient

  abbrev lo : ℕ → Bool
  lo = dl.orient

  abbrev ro : ℕ → Bool
  ro = dr.orient

  abbrev uo : ℕ → Bool
  uo = du.orient

  abbrev ddo : ℕ → Bool
  ddo = dd.orient

  -- Section 5's c: the corner tags
  unfoldable pub corner_tag : ℕ → ℕ
  corner_tag =
      four
      (when l1 0 && eo 0 || l3 0 0 && eo 1 || l4 0 0 && lo 0 || l6 0 0 && ro 1 then UP
      else when l1 0 || l3 0 1 && not (eo 3) || l4 0 1 && not (uo 0) || l6 0 1 && not (ddo 3) then LEFT
      else when l3 0 0 then RIGHT
      else when l3 0 1 then DOWN
      else when l4 0 0 then LEFT2
      else when l4 0 1 then UP2
      else when l6 0 0 then RIGHT2
      else when l6 0 1 then DOWN2
      else CENTER)
      (when l1 1 && eo 1 || l3 1 0 && eo 0 || l4 1 0 && ro 1 || l6 1 0 && lo 0 then UP
      else when l1 1 || l3 1 1 && not (eo 2) || l4 1 1 && not (uo 1) || l6 1 1 && not (ddo 2) then RIGHT
      else when l3 1 0 then LEFT
      else when l3 1 1 then DOWN
      else when l4 1 0 then RIGHT2
      else when l4 1 1 then UP2
      else when l6 1 0 then LEFT2
      else when l6 1 1 then DOWN2
      else CENTER)
      (when l1 2 && eo 2 || l3 2 0 && eo 3 || l4 2 0 && ro 2 || l6 2 0 && lo 3 then DOWN
      else when l1 2 || l3 2 1 && not (eo 1) || l4 2 1 && not (ddo 2) || l6 2 1 && not (uo 1) then RIGHT
      else when l3 2 0 then LEFT
      else when l3 2 1 then UP
      else when l4 2 0 then RIGHT2
      else when l4 2 1 then DOWN2
      else when l6 2 0 then LEFT2
      else when l6 2 1 then UP2
      else CENTER)
      (when l1 3 && eo 3 || l3 3 0 && eo 2 || l4 3 0 && lo 3 || l6 3 0 && ro 2 then DOWN
      else when l1 3 || l3 3 1 && not (eo 0) || l4 3 1 && not (ddo 3) || l6 3 1 && not (uo 0) then LEFT
      else when l3 3 0 then RIGHT
      else when l3 3 1 then UP
      else when l4 3 0 then LEFT2
      else when l4 3 1 then DOWN2
      else when l6 3 0 then RIGHT2
      else when l6 3 1 then UP2
      else CENTER)

  -- Section 5's m: the mid-edge tags
  unfoldable pub mid_tag : ℕ → ℕ
  mid_tag =
      four
      (when l2 0 0 && eo 0 || l2 0 1 && eo 1 || l5 0 0 && lo 0 || l5 0 1 && ro 1 then UP
      else when l2 0 0 then LEFT
      else when l2 0 1 then RIGHT
      else when l5 0 0 then LEFT2
      else when l5 0 1 then RIGHT2
      else when e.corner 0 && dl.corner 2 && e.corner 1 && dr.corner 3 then (when eo 0 then when eo 1 then UP else RIGHT else LEFT)
      else CENTER)
      (when l2 1 0 && not (eo 1) || l2 1 1 && not (eo 2) || l5 1 0 && not (uo 1) || l5 1 1 && not (ddo 2) then RIGHT
      else when l2 1 0 then UP
      else when l2 1 1 then DOWN
      else when l5 1 0 then UP2
      else when l5 1 1 then DOWN2
      else when e.corner 1 && du.corner 3 && e.corner 2 && dd.corner 0 then
      (when not (eo 1) then when not (eo 2) then RIGHT else DOWN else UP)
      else CENTER)
      (when l2 2 0 && eo 3 || l2 2 1 && eo 2 || l5 2 0 && lo 3 || l5 2 1 && ro 2 then DOWN
      else when l2 2 0 then LEFT
      else when l2 2 1 then RIGHT
      else when l5 2 0 then LEFT2
      else when l5 2 1 then RIGHT2
      else when e.corner 2 && dr.corner 0 && e.corner 3 && dl.corner 1 then (when eo 2 then when eo 3 then DOWN else LEFT else RIGHT)
      else CENTER)
      (when l2 3 0 && not (eo 0) || l2 3 1 && not (eo 3) || l5 3 0 && not (uo 0) || l5 3 1 && not (ddo 3) then LEFT
      else when l2 3 0 then UP
      else when l2 3 1 then DOWN
      else when l5 3 0 then UP2
      else when l5 3 1 then DOWN2
      else when e.corner 3 && dd.corner 1 && e.corner 0 && du.corner 2 then (when not (eo 3) then when not (eo 0) then LEFT else UP else DOWN)
      else CENTER)

  unfoldable pub trace_flags : Tags
  trace_flags = record {
    t0 = tag_number (corner_tag 0) (mid_tag 0);
    t1 = tag_number (corner_tag 1) (mid_tag 1);
    t2 = tag_number (corner_tag 2) (mid_tag 2);
    t3 = tag_number (corner_tag 3) (mid_tag 3);
  }

-- the same of the junction numbers: the centre, left 1 2 3, right 1 2 3, up 1 2 3, down 1 2 3
unfoldable pub trace_edges : Junctions
    → Junctions → Junctions → Junctions → Junctions → Junctions → Junctions
    → Junctions → Junctions → Junctions → Junctions → Junctions → Junctions → Tags
trace_edges e dl dl2 dl3 dr dr2 dr3 du du2 du3 dd dd2 dd3 =
    trace_flags (decode_flags e)
    (decode_flags dl) (decode_flags dl2) (decode_flags dl3) (decode_flags dr) (decode_flags dr2) (decode_flags dr3)
    (decode_flags du) (decode_flags du2) (decode_flags du3) (decode_flags dd) (decode_flags dd2) (decode_flags dd3)

-- the tags of (x, y), j the field of junction numbers: neighbours are read at clamped positions
unfoldable pub tags : ℕ → ℕ → (ℕ → ℕ → Junctions) → ℕ → ℕ → Tags
tags w h j x y =
    let at = near w h j x y in
    trace_edges (at (pos 0) (pos 0))
    (at (negsuc 0) (pos 0)) (at (negsuc 1) (pos 0)) (at (negsuc 2) (pos 0))
    (at (pos 1) (pos 0)) (at (pos 2) (pos 0)) (at (pos 3) (pos 0))
    (at (pos 0) (negsuc 0)) (at (pos 0) (negsuc 1)) (at (pos 0) (negsuc 2))
    (at (pos 0) (pos 1)) (at (pos 0) (pos 2)) (at (pos 0) (pos 3))

-- the nine offsets (dx, dy), by tag: CENTER LEFT LEFT2 RIGHT RIGHT2 UP UP2 DOWN DOWN2; `negsuc k` is -1 - k
abbrev pub offsets : List Offset
offsets =
    record { dx = pos 0; dy = pos 0 }
    ∷ record { dx = negsuc 0; dy = pos 0 }
    ∷ record { dx = negsuc 1; dy = pos 0 }
    ∷ record { dx = pos 1; dy = pos 0 }
    ∷ record { dx = pos 2; dy = pos 0 }
    ∷ record { dx = pos 0; dy = negsuc 0 }
    ∷ record { dx = pos 0; dy = negsuc 1 }
    ∷ record { dx = pos 0; dy = pos 1 }
    ∷ record { dx = pos 0; dy = pos 2 }
    ∷ []

-- `neighbor_offset`: any other tag is CENTER's
abbrev pub offset_of : ℕ → Offset
offset_of tag = get_or offsets tag (record { dx = pos 0; dy = pos 0 })
