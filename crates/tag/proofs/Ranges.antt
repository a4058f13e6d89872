-- Laws of section 5's tags: their range, and that a number gives its two tags back. Assumes nothing.
use Rattle.std.specs.Prelude.{Bool, true, false, T, leb}
use Prim.Native.Nat.{ℕ, zero, suc, ◌≤◌}
use Rattle.std.proofs.Common.{arith, lit≤}
use Rattle.tag.specs.Tag.{when◌then◌else◌, JunctionFlags, tag_number, corner_tag, mid_tag, trace_flags}
use Rattle.tag.specs.Claims.{Packed}

-- ---- the range
either : (t : Bool) (a b : ℕ) → a ≤ 8 → b ≤ 8 → (when t then a else b) ≤ 8
unfolding when◌then◌else◌
either true a b h k = h
either false a b h k = k

-- a branch with a tag, and the branches after it
or_else : (t : Bool) (a b : ℕ) → T (leb a 8) → b ≤ 8 → (when t then a else b) ≤ 8
or_else t a b h k = either t a b (lit≤ h) k

pub packed : (c m : ℕ) → c ≤ 8 → m ≤ 8 → Packed (tag_number c m) c m
packed c m h k = record { corner = omega arith; mid = omega arith; range = omega arith }

module _ (e dl dl2 dl3 dr dr2 dr3 du du2 du3 dd dd2 dd3 : JunctionFlags) where
  abbrev c : ℕ → ℕ
  c = corner_tag e dl dl2 dl3 dr dr2 dr3 du du2 du3 dd dd2 dd3

  abbrev m : ℕ → ℕ
  m = mid_tag e dl dl2 dl3 dr dr2 dr3 du du2 du3 dd dd2 dd3

  pub corner_le : (i : ℕ) → c i ≤ 8
  unfolding corner_tag
  corner_le zero =
      or_else _ _ _ tt (or_else _ _ _ tt (or_else _ _ _ tt (or_else _ _ _ tt
      (or_else _ _ _ tt (or_else _ _ _ tt (or_else _ _ _ tt (or_else _ _ _ tt (lit≤ tt))))))))
  corner_le (suc zero) =
      or_else _ _ _ tt (or_else _ _ _ tt (or_else _ _ _ tt (or_else _ _ _ tt
      (or_else _ _ _ tt (or_else _ _ _ tt (or_else _ _ _ tt (or_else _ _ _ tt (lit≤ tt))))))))
  corner_le (suc (suc zero)) =
      or_else _ _ _ tt (or_else _ _ _ tt (or_else _ _ _ tt (or_else _ _ _ tt
      (or_else _ _ _ tt (or_else _ _ _ tt (or_else _ _ _ tt (or_else _ _ _ tt (lit≤ tt))))))))
  corner_le (suc (suc (suc i))) =
      or_else _ _ _ tt (or_else _ _ _ tt (or_else _ _ _ tt (or_else _ _ _ tt
      (or_else _ _ _ tt (or_else _ _ _ tt (or_else _ _ _ tt (or_else _ _ _ tt (lit≤ tt))))))))

  pub mid_le : (i : ℕ) → m i ≤ 8
  unfolding mid_tag
  mid_le zero =
      or_else _ _ _ tt (or_else _ _ _ tt (or_else _ _ _ tt (or_else _ _ _ tt (or_else _ _ _ tt
      (either _ _ _ (either _ _ _ (or_else _ _ _ tt (lit≤ tt)) (lit≤ tt)) (lit≤ tt))))))
  mid_le (suc zero) =
      or_else _ _ _ tt (or_else _ _ _ tt (or_else _ _ _ tt (or_else _ _ _ tt (or_else _ _ _ tt
      (either _ _ _ (either _ _ _ (or_else _ _ _ tt (lit≤ tt)) (lit≤ tt)) (lit≤ tt))))))
  mid_le (suc (suc zero)) =
      or_else _ _ _ tt (or_else _ _ _ tt (or_else _ _ _ tt (or_else _ _ _ tt (or_else _ _ _ tt
      (either _ _ _ (either _ _ _ (or_else _ _ _ tt (lit≤ tt)) (lit≤ tt)) (lit≤ tt))))))
  mid_le (suc (suc (suc i))) =
      or_else _ _ _ tt (or_else _ _ _ tt (or_else _ _ _ tt (or_else _ _ _ tt (or_else _ _ _ tt
      (either _ _ _ (either _ _ _ (or_else _ _ _ tt (lit≤ tt)) (lit≤ tt)) (lit≤ tt))))))

  pub traced : let t = trace_flags e dl dl2 dl3 dr dr2 dr3 du du2 du3 dd dd2 dd3 in
      Packed t.t0 (c 0) (m 0) × Packed t.t1 (c 1) (m 1) × Packed t.t2 (c 2) (m 2) × Packed t.t3 (c 3) (m 3)
  unfolding trace_flags
  traced = (
    packed (c 0) (m 0) (corner_le 0) (mid_le 0),
    packed (c 1) (m 1) (corner_le 1) (mid_le 1),
    packed (c 2) (m 2) (corner_le 2) (mid_le 2),
    packed (c 3) (m 3) (corner_le 3) (mid_le 3),
  )
