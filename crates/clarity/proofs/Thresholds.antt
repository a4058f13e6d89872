-- What a lawful setting's threshold is. Assumes nothing.
use Prim.Native.Nat.{◌*◌}
use native.Mathlib.Nat.{zero-mul}
use mathlib.Core.Bool.{true, false}
use lib.Dec.{T, ltb, ltb→lt, lt→ltb}
use lib.Ieee.{Float, nan, inf, fin, up, down, lt, le}
use lib.Ieee.Fits.{and_l}
use lib.Ieee.Positive.{positive, first_pos}
use Rattle.single.specs.Root.{rooted}
use Rattle.clarity.specs.declared.Clarity.{Clarity}
use Rattle.clarity.specs.declared.Clarity.TheVariants.{Standard, Threshold, Gated}
use Rattle.clarity.specs.Clarity.{threshold_of, lawful_single, lawful_of}

-- ---- what is lawful is finite and above zero
pub lawful_positive : (t : Float) → T (lawful_single t) → T (positive t)
unfolding lt le
lawful_positive nan h = absurd h
lawful_positive (inf true) h = absurd h
lawful_positive (inf false) h = absurd h
lawful_positive (fin true m e) h = absurd h
lawful_positive (fin false m e) h =
    let l = ltb→lt (0 * down e) (m * up e * 1) (and_l (ltb (0 * down e) (m * up e * 1)) _ h) in
    lt→ltb 0 m (first_pos m (up e) (first_pos (m * up e) 1 (rw (zero-mul (down e)) at l)))

pub positive_rooted : (t : Float) → T (positive t) → T (rooted t)
positive_rooted nan p = absurd p
positive_rooted (inf s) p = absurd p
positive_rooted (fin true m e) p = absurd p
positive_rooted (fin false m e) p = tt

pub lawful_threshold : (q : Clarity) → T (lawful_of q) → T (lawful_single (threshold_of q))
lawful_threshold Standard h = unfold lt le in tt
lawful_threshold (Threshold t) h = h
lawful_threshold (Gated t) h = h
