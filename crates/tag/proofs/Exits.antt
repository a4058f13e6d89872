-- Where the code stops early the tags are 0, and what lies two and three pixels away gives nothing where no run of four may pass.
-- Assumes nothing.
use mathlib.Core.Path.{◌≡◌, refl, sym, ◌∙◌, ap}
use mathlib.Core.Bool.{Bool, true, false, cond}
use Prim.Native.Nat.{ℕ, ◌*◌, ◌/◌, ◌%◌}
use native.Mathlib.Omega.{arith}
use lib.Dec.{eqb}
use lib.Bits.{bit_and, bit_or, or_add_and, and_le_l, and_le_r, and_zero_l, and_zero_r, and_block, and_mod, and_mask}
use borrow.Author.Tests.{eqb-true}
use Rattle.junction.specs.declared.Junctions.{Junctions}
use Rattle.lanes.specs.declared.Pair.{Pair}
use Rattle.lanes.specs.Lanes.{lanes, word_of, across, down, above, own, after, choose}
use Rattle.lanes.proofs.Laws.{num, bytewise}
use Rattle.tag.specs.declared.Neighbors.{Neighbors}
use Rattle.tag.specs.declared.Tags.{Tags}
use Rattle.tag.specs.Tag.{active, horizontal, vertical, trace_edges}
use Rattle.tag.specs.Laws.{none}
use Rattle.tag.specs.Words.{actives, horizontals, verticals, around_of, level2_of, level3_of, level4_near, level4_of, level5_of, level6_of}
use Rattle.tag.specs.Words.{far_corners, far_mids, far_of, corners_of, both_of, mids_of, tags_word, split_of, bare_of, nothing, known_of, Near, near_of}
use Rattle.tag.proofs.Flags as flags
use Rattle.tag.proofs.Same.{around_sides, same}

pub or_none : (a b : ℕ) → bit_or a b ≡ 0 → (a ≡ 0) × (b ≡ 0)
or_none a b e = (omega (arith, or_add_and a b, and_le_l a b, and_le_r a b), omega (arith, or_add_and a b, and_le_l a b, and_le_r a b))

choose_none : (a : ℕ) → choose 0 a 0 ≡ 0
unfolding choose
choose_none a = rw (and_zero_r a)

empty : lanes 0 0 0 0 ≡ 0
unfolding lanes
empty = refl

pub far_none : (p : Pair) (n n2 n3 : Neighbors) → p.h ≡ 0 → p.v ≡ 0 → far_of p n n2 n3 ≡ nothing
unfolding far_of level4_of level5_of level6_of far_corners far_mids across down own after above
far_none p n n2 n3 eh ev = rw (eh, ev) (simp (and_zero_l, choose_none, empty))

pub near_none : (w : ℕ) (n : Neighbors) → actives w ≡ 0 → tags_word w n nothing ≡ 0
unfolding tags_word corners_of mids_of both_of level2_of level3_of across down own after above
near_none w n e = rw e (simp (and_zero_l, choose_none, empty))

-- a word of zeros
zeros : (a b c d : ℕ) → lanes a b c d ≡ 0 → (a % 256 ≡ 0) × (b % 256 ≡ 0) × (c % 256 ≡ 0) × (d % 256 ≡ 0)
unfolding lanes
zeros a b c d e = (omega arith, omega arith, omega arith, omega arith)

-- a number without flags but orientation
record Bare (n : ℕ) : Type 0 where
  no_active : active n ≡ false
  no_horizontal : horizontal n ≡ false
  no_vertical : vertical n ≡ false

bare : (n : ℕ) → bit_and n 7 % 256 ≡ 0 → Bare n
bare n e =
    let k : n % 8 ≡ bit_and n 7 = sym (and_mask n 3) in
    let q : n ≡ n / 8 * 8 = omega arith in
    let a : (m : ℕ) → m * 8 % 2 ≡ 0 = λ m. omega arith in
    let h : (m : ℕ) → m * 8 / 2 % 2 ≡ 0 = λ m. omega arith in
    let v : (m : ℕ) → m * 8 / 4 % 2 ≡ 0 = λ m. omega arith in
    record {
      no_active = ap active q ∙ rw (a (n / 8));
      no_horizontal = ap horizontal q ∙ rw (h (n / 8));
      no_vertical = ap vertical q ∙ rw (v (n / 8));
    }

blank : lanes (num false) (num false) (num false) (num false) ≡ 0
unfolding lanes num
blank = refl

-- level 4 needs the pixel's own flags
run_none : (w : ℕ) (n : Neighbors) → horizontals w ≡ 0 → verticals w ≡ 0 → ((level4_near w n).h ≡ 0) × ((level4_near w n).v ≡ 0)
unfolding level4_near
run_none w n eh ev = (rw eh (simp (and_zero_l, and_zero_r)), rw ev (simp (and_zero_l, and_zero_r)))

-- what the code finds of the neighbours at distance 1 is `near_of`
pub near_made : (e l r u d : Junctions) {w : ℕ} {n : Neighbors} {p : Pair} {t : Tags} (k : Bool)
    → w ≡ word_of e → n ≡ around_of l r u d → p ≡ level4_near w n → eqb (bit_or p.h p.v) 0 ≡ k → t ≡ split_of (cond k (tags_word w n nothing) 0)
    → ◌≡◌ {A = Near} (record { tags = t; known = k }) (near_of e l r u d)
unfolding near_of known_of
near_made e l r u d k ew en ep ek et =
    let kept : known_of (word_of e) (around_of l r u d) ≡ k = rw (ep, ew, en) at ek in
    let same_tags = rw (ew, en) at et in
    rw kept (λ i. record { tags = same_tags i; known = k })

module _ (e dl dl2 dl3 dr dr2 dr3 du du2 du3 dd dd2 dd3 : Junctions) where
  abbrev n : Neighbors
  n = around_of dl dr du dd

  abbrev p : Pair
  p = level4_near (word_of e) n

  pub whole : split_of (tags_word (word_of e) n (far_of p n (around_of dl2 dr2 du2 dd2) (around_of dl3 dr3 du3 dd3)))
      ≡ trace_edges e dl dl2 dl3 dr dr2 dr3 du du2 du3 dd dd2 dd3
  whole =
      rw (around_sides dl dr du dd, around_sides dl2 dr2 du2 dd2, around_sides dl3 dr3 du3 dd3)
      (same e dl dl2 dl3 dr dr2 dr3 du du2 du3 dd dd2 dd3)

  -- no run of four may pass
  known_none : known_of (word_of e) n ≡ true → (p.h ≡ 0) × (p.v ≡ 0)
  unfolding known_of
  known_none k = or_none p.h p.v (eqb-true (bit_or p.h p.v) 0 k)

  near_whole : p.h ≡ 0 → p.v ≡ 0 → split_of (tags_word (word_of e) n nothing) ≡ trace_edges e dl dl2 dl3 dr dr2 dr3 du du2 du3 dd dd2 dd3
  near_whole eh ev = rw (sym (far_none p n (around_of dl2 dr2 du2 dd2) (around_of dl3 dr3 du3 dd3) eh ev)) whole

  -- for a caller that loads what lies farther away only where it counts
  pub near_all : known_of (word_of e) n ≡ true → (near_of e dl dr du dd).tags ≡ trace_edges e dl dl2 dl3 dr dr2 dr3 du du2 du3 dd dd2 dd3
  unfolding near_of
  near_all k = rw k (near_whole (known_none k).0 (known_none k).1)

  stops : p.h ≡ 0 → p.v ≡ 0 → actives (word_of e) ≡ 0 → split_of 0 ≡ trace_edges e dl dl2 dl3 dr dr2 dr3 du du2 du3 dd dd2 dd3
  stops eh ev ea = ap split_of (sym (near_none (word_of e) n ea)) ∙ near_whole eh ev

  -- the pixel has no flag but orientation
  pub stops_early : bare_of e ≡ true → split_of 0 ≡ trace_edges e dl dl2 dl3 dr dr2 dr3 du du2 du3 dd dd2 dd3
  unfolding lanes
  stops_early k =
      let z = zeros (bit_and e.n0 7) (bit_and e.n1 7) (bit_and e.n2 7) (bit_and e.n3 7)
      (sym (bytewise bit_and and_block and_mod e.n0 e.n1 e.n2 e.n3 7 7 7 7) ∙ eqb-true (bit_and (word_of e) 0x07070707) 0 k) in
      let b0 = bare e.n0 z.0 in
      let b1 = bare e.n1 z.1 in
      let b2 = bare e.n2 z.2 in
      let b3 = bare e.n3 z.3 in
      let r = run_none (word_of e) n
      (flags.horizontals e.n0 e.n1 e.n2 e.n3 ∙ rw (b0.no_horizontal, b1.no_horizontal, b2.no_horizontal, b3.no_horizontal) blank)
      (flags.verticals e.n0 e.n1 e.n2 e.n3 ∙ rw (b0.no_vertical, b1.no_vertical, b2.no_vertical, b3.no_vertical) blank) in
      stops r.0 r.1
      (flags.actives e.n0 e.n1 e.n2 e.n3 ∙ rw (b0.no_active, b1.no_active, b2.no_active, b3.no_active) blank)

  -- for a caller that loads the neighbours only where they count
  pub bare_none : bare_of e ≡ true → trace_edges e dl dl2 dl3 dr dr2 dr3 du du2 du3 dd dd2 dd3 ≡ none
  unfolding split_of
  bare_none k = sym (stops_early k)
