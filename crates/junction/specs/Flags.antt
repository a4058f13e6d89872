-- `arbitrate_junctions` on flags, as the code computes it: `and` for a product, and a flag for each of the source's singles 0.0 and 1.0.
-- Definitions only.
use Rattle.std.specs.Prelude.{Bool, cond, ◌&&◌, ℕ, ◌+◌, Float}
use Rattle.std.specs.Float.Ieee.{lt, le}
use Rattle.metric.specs.declared.Metric.{Metric}
use Rattle.metric.specs.declared.Pair.{Pair}
use Rattle.single.specs.Single.{◌⊕◌, max_of, min_of}
use Rattle.active_corners.specs.declared.Active.{Active}
use Rattle.active_corners.specs.Active.{above}
use Rattle.junction.specs.declared.Junctions.{Junctions}

-- the source's [f32; 2]
abbrev pub pair : Float → Float → Pair
pair a b = record { 0 = a; 1 = b }

unfoldable pub condition_of : Pair → Pair → Pair → Bool
condition_of d a b =
    le (max_of (min_of a.0 a.1) (min_of b.0 b.1)) d.0 && le (max_of (min_of a.0 b.1) (min_of b.0 a.1)) d.1

abbrev pub bit : Bool → ℕ → ℕ
bit t n = cond t n 0

-- the junction number of a corner: whether it is active, its diagonal d, and the distances a and b
-- along a row and along a column (orth_a, orth_b)
unfoldable pub number_of : Bool → Pair → Pair → Pair → ℕ
number_of active d a b =
    let h = min_of a.0 b.0 in
    let v = min_of a.1 b.1 in
    let j = condition_of d a b in
    bit active 1 + bit (lt h v && j) 2 + bit (above h v && j) 4 + bit (above (h ⊕ a.0) (v ⊕ a.1)) 8

-- metrics tl t l c r bl b br
unfoldable pub numbers_of : Metric → Metric → Metric → Metric → Metric → Metric → Metric → Metric → Active → Junctions
numbers_of tl t l c r bl b br k = record {
  n0 = number_of k.a0 (pair l.tr c.tl) (pair l.r c.t) (pair tl.r l.t);
  n1 = number_of k.a1 (pair r.tl c.tr) (pair c.r c.t) (pair t.r r.t);
  n2 = number_of k.a2 (pair b.tr br.tl) (pair c.r b.t) (pair b.r br.t);
  n3 = number_of k.a3 (pair b.tl bl.tr) (pair l.r b.t) (pair bl.r bl.t);
}
