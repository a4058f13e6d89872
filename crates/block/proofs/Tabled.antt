-- The rules' table, T1 to T13, as one theorem: all thirteen pairs agree, which is computed at once. Assumes nothing.
use mathlib.Core.Path.{◌≡◌, refl}
use mathlib.Core.Bool.{Bool, true, false, ◌&&◌}
use Rattle.std.specs.Prelude.{List, [], ◌∷◌, ℕ, zero, suc, eqb, length, get_or}
use Rattle.std.proofs.Common.{eqb-true}
use Rattle.std.specs.Float.Ieee.{of_bits, to_bits, add, sub, mul, div, neg, lt, of_int}
use Rattle.single.specs.Single.{max_of, min_of, clamp_of}
use Rattle.single.specs.Root.{sqrt_of}
use Rattle.metric.specs.Distance.{distance_of, weighted_of, norm}
use Rattle.weight.specs.Weight.{weight_at, corner_weight_of}
use Rattle.tag.specs.Tag.{trace_edges, trace_flags, corner_tag, mid_tag, when◌then◌else◌}
use Rattle.block.specs.Table.{Entry, entry, table, agree}

-- the checker computes the thirteen tests
computed : agree table ≡ true
unfolding table sqrt_of distance_of weighted_of norm weight_at corner_weight_of trace_edges trace_flags corner_tag mid_tag when◌then◌else◌
    max_of min_of clamp_of add sub mul div neg lt of_int of_bits to_bits
computed = refl

front : (a b : Bool) → (a && b) ≡ true → (a ≡ true) × (b ≡ true)
front true b e = (refl, e)
front false b e = absurd (mathlib.Core.Bool.true≢false (mathlib.Core.Path.sym e))

-- and what was computed holds of each entry
each : (l : List Entry) (d : Entry) → d.given ≡ d.tabled → agree l ≡ true → (i : ℕ) → (get_or l i d).given ≡ (get_or l i d).tabled
each [] d z e i = z
each (a ∷ l) d z e zero = eqb-true a.given a.tabled (front (eqb a.given a.tabled) (agree l) e).0
each (a ∷ l) d z e (suc i) = each l d z (front (eqb a.given a.tabled) (agree l) e).1 i

-- T1 to T13
pub tabled : (i : ℕ) → (get_or table i (entry 0 0)).given ≡ (get_or table i (entry 0 0)).tabled
tabled i = each table (entry 0 0) refl computed i

pub thirteen : length table ≡ 13
unfolding table
thirteen = refl
