-- Runs of blocks and parts of a picture without a stale block: one more block, run or row after the other. Assumes nothing.
use mathlib.Core.Path.{◌≡◌, sym, ap, ◌∙◌, subst}
use mathlib.Core.List.{List}
use Prim.Native.Nat.{ℕ, ◌+◌, ◌-◌, ◌*◌, ◌/◌, ◌%◌, ◌≤◌, ◌<◌}
use native.Mathlib.Nat.{div-add-mod'}
use native.Mathlib.Decide.{dec_lt}
use native.Mathlib.Omega.{arith}
use lib.ListN.{length, get_or, take, drop, length-drop}
use lib.Seq.{get_or-take, get_or-drop, length-take-le}
use Rattle.machine.proofs.Places.{area, row_end}
use Rattle.marks.specs.Marks.{ClearRun, ClearUpTo, ClearFrom, Clear, Part}

-- ---- room

-- row j of a part lies within the marks, which are a small number up to its end
pub record Room (w j : ℕ) (m : List ℕ) : Type 0 where
  pub marked : j * w + w ≤ length m
  pub few : j * w + w ≤ 2048 * 2048

module _ {w x x' y y' : ℕ} {m : List ℕ} (j : ℕ) (p : Part w x x' y y' m) (l : j < y') where
  pub room : Room w j m
  room =
      let e = row_end w y' j l in
      record { marked = omega (arith, e, p.for_marks); few = omega (arith, e, area w y' p.wide p.high) }

  -- the row as a part of its own
  pub part_row : Part w x x' j (j + 1) m
  part_row = record {
    columns = p.columns;
    along = p.along;
    wide = p.wide;
    rows = omega arith;
    high = omega (arith, p.high);
    for_marks = omega (arith, room.marked);
  }

-- ---- runs without a stale block

module _ (m : List ℕ) where
  -- no blocks, one block, and two runs
  run_none : (i : ℕ) → ClearRun i i m
  run_none i b l h = absurd (omega arith)

  pub run_one : (i j : ℕ) → j ≡ i + 1 → get_or m i 0 ≡ 0 → ClearRun i j m
  run_one i j q e b l h = let at : b ≡ i = omega arith in subst (λ (b : ℕ). get_or m b 0 ≡ 0) (sym at) e

  pub run_two : (i j k : ℕ) → ClearRun i j m → ClearRun j k m → ClearRun i k m
  run_two i j k f g b l h = go (dec_lt b j)
    where
      go : Dec (b < j) → get_or m b 0 ≡ 0
      go (yes n) = f b l n
      go (no n) = g b (omega arith) h

  -- two runs from the first on
  pub up_two : (lo i j hi : ℕ) → ClearUpTo lo hi m i → ClearUpTo i hi m j → ClearUpTo lo hi m j
  up_two lo i j hi t u = record { from = omega (arith, t.from, u.from); to = u.to; clear = run_two lo i j t.clear u.clear }

  -- those of a part of the slice, which begins at lo
  part_at : (lo hi k : ℕ) → lo + k < hi → get_or (take (hi - lo) (drop lo m)) k 0 ≡ get_or m (lo + k) 0
  part_at lo hi k l = get_or-take (hi - lo) (drop lo m) k 0 (omega arith) ∙ get_or-drop lo m k 0

  part_long : (lo hi : ℕ) → hi ≤ length m → length (take (hi - lo) (drop lo m)) ≡ hi - lo
  part_long lo hi h = length-take-le (hi - lo) (drop lo m) (omega (arith, length-drop lo m))

  part_clear : (lo hi i j : ℕ) → lo + j ≤ hi → ClearRun i j (take (hi - lo) (drop lo m)) → ClearRun (lo + i) (lo + j) m
  part_clear lo hi i j h f b l u =
      let q : lo + (b - lo) ≡ b = omega arith in
      ap (λ (b : ℕ). get_or m b 0) (sym q) ∙ sym (part_at lo hi (b - lo) (omega arith)) ∙ f (b - lo) (omega arith) (omega arith)

  pub up_part : (lo hi r : ℕ) → lo ≤ hi → hi ≤ length m
      → ClearUpTo 0 (length (take (hi - lo) (drop lo m))) (take (hi - lo) (drop lo m)) r → ClearUpTo lo hi m (lo + r)
  up_part lo hi r l h t =
      let to : lo + r ≤ hi = omega (arith, t.to, part_long lo hi h) in
      record { from = omega arith; to = to; clear = λ b p q. part_clear lo hi 0 r to t.clear b (omega arith) q }

  pub down_part : (lo hi r : ℕ) → lo ≤ hi → hi ≤ length m
      → ClearFrom 0 (length (take (hi - lo) (drop lo m))) (take (hi - lo) (drop lo m)) r → ClearFrom lo hi m (lo + r)
  down_part lo hi r l h t =
      let e = part_long lo hi h in
      let f = part_clear lo hi r (length (take (hi - lo) (drop lo m))) (omega (arith, e)) t.clear in
      record { from = omega arith; to = omega (arith, t.to, e); clear = λ b p q. f b p (omega (arith, e)) }

-- ---- parts without a stale block

module _ (w : ℕ) (m : List ℕ) where
  -- fewer columns
  pub clear_within : (a a' x x' y y' : ℕ) → Clear w a a' y y' m → a ≤ x → x' ≤ a' → Clear w x x' y y' m
  clear_within a a' x x' y y' f l l' b i =
      f b (record { left = omega (arith, i.left); right = omega (arith, i.right); above = i.above; below = i.below })

  -- the rows before j, and those from j on
  pub clear_rows : (x x' y j y' : ℕ) → Clear w x x' y j m → Clear w x x' j y' m → Clear w x x' y y' m
  clear_rows x x' y j y' f g b i = go (dec_lt (b / w) j)
    where
      go : Dec (b / w < j) → get_or m b 0 ≡ 0
      go (yes l) = f b (record { left = i.left; right = i.right; above = i.above; below = l })
      go (no l) = g b (record { left = i.left; right = i.right; above = omega arith; below = i.below })

  -- one row, by the run of its marks
  pub clear_row : (x x' j : ℕ) → ClearRun (j * w + x) (j * w + x') m → Clear w x x' j (j + 1) m
  clear_row x x' j f b i =
      let e : b / w ≡ j = omega (arith, i.above, i.below) in
      let at : j * w + b % w ≡ b = subst (λ (r : ℕ). r * w + b % w ≡ b) e (div-add-mod' b w) in
      f b (omega (arith, at, i.left)) (omega (arith, at, i.right))

  -- one row more, for which columns at the right are left out
  pub left_more : (x c y j d : ℕ) → Clear w x c y j m → ClearUpTo (j * w + x) (j * w + c) m (j * w + x + d) → Clear w x (x + d) y (j + 1) m
  left_more x c y j d f t =
      clear_rows x (x + d) y j (j + 1) (clear_within x c x (x + d) y j f (omega arith) (omega (arith, t.to)))
      (clear_row x (x + d) j (λ b l h. t.clear b l (omega arith)))

  -- and columns at the left
  pub right_more : (c e y j d : ℕ) → Clear w c e y j m → ClearFrom (j * w + c) (j * w + e) m (j * w + c + d) → Clear w (c + d) e y (j + 1) m
  right_more c e y j d f t =
      clear_rows (c + d) e y j (j + 1) (clear_within c e (c + d) e y j f (omega arith) (omega arith))
      (clear_row (c + d) e j (λ b l h. t.clear b (omega arith) h))
