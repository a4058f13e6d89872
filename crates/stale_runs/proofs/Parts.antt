-- Rectangles of blocks: as runs of blocks in row order, and swept one beside or below the other. Assumes nothing.
use mathlib.Core.Path.{◌≡◌, sym, ap, ◌∙◌}
use mathlib.Core.Logic.{◌⊎◌, inl, inr}
use mathlib.Core.Bool.{Bool, true, false}
use mathlib.Core.List.{List}
use Prim.Native.Nat.{ℕ, ◌+◌, ◌-◌, ◌*◌, ◌/◌, ◌%◌, ◌≤◌, ◌<◌}
use native.Mathlib.Nat.{div-add-mod', le-div_iff_mul-le, div-lt_iff_lt-mul, mod-lt, mul-le-mul_right}
use native.Mathlib.Decide.{dec_lt}
use native.Mathlib.Omega.{arith}
use lib.ListN.{length, get_or, replicate, get_or-replicate}
use Rattle.machine.specs.Lists.{has}
use Rattle.machine.specs.Calls.{is_stale}
use Rattle.machine.proofs.Order.{table_has, has_table}
use Rattle.marks.specs.Marks.{stale_in, blocks_from, Inside, Clear, Part}
use Rattle.marks.proofs.Counts.{stale_at}
use Rattle.screens.specs.declared.frame.Frame.{Frame}
use Rattle.stale_runs.specs.Frames.{DrawsOf, SweptOf}
use Rattle.stale_runs.proofs.Swept.{Run, swept_none, swept_all, swept_two, swept_as, stays_clear}

-- ---- as runs

module _ (w : ℕ) (some : 0 < w) where
  -- where block b stands, by its row and column
  at : (b : ℕ) → b ≡ b / w * w + b % w
  at b = sym (div-add-mod' b w)

  column : (b : ℕ) → b % w < w
  column b = mod-lt b some

  -- rows y to y' - 1
  pub rows_run : (y y' b : ℕ) → Inside w 0 w y y' b → Run (y * w) (y' * w) b
  rows_run y y' b i =
      ((le-div_iff_mul-le {k = w} {x = y} {y = b} some).0 i.above, (div-lt_iff_lt-mul {k = w} {x = b} {y = y'} some).0 i.below)

  pub run_rows : (y y' b : ℕ) → Run (y * w) (y' * w) b → Inside w 0 w y y' b
  run_rows y y' b r = record {
    left = omega arith;
    right = column b;
    above = (le-div_iff_mul-le {k = w} {x = y} {y = b} some).1 r.0;
    below = (div-lt_iff_lt-mul {k = w} {x = b} {y = y'} some).1 r.1;
  }

  -- a row's columns x to x' - 1
  pub row_run : (x x' y b : ℕ) → Inside w x x' y (y + 1) b → Run (y * w + x) (y * w + x') b
  row_run x x' y b i =
      let q : b / w ≡ y = omega (arith, i.above, i.below) in
      let e : b ≡ y * w + b % w = at b ∙ ap (λ (r : ℕ). r * w + b % w) q in
      (omega (arith, e, i.left), omega (arith, e, i.right))

  pub run_row : (x x' y b : ℕ) → x' ≤ w → Run (y * w + x) (y * w + x') b → Inside w x x' y (y + 1) b
  run_row x x' y b l r =
      let lo : y ≤ b / w = (le-div_iff_mul-le {k = w} {x = y} {y = b} some).1 (omega (arith, r.0)) in
      let hi : b / w < y + 1 = (div-lt_iff_lt-mul {k = w} {x = b} {y = y + 1} some).1 (omega (arith, r.1)) in
      let q : b / w ≡ y = omega arith in
      let e : b ≡ y * w + b % w = at b ∙ ap (λ (r : ℕ). r * w + b % w) q in
      record { left = omega (arith, e, r.0); right = omega (arith, e, r.1); above = lo; below = hi }

  -- the blocks from row y on and before e: whole rows, and the first ones of a row
  module _ (y e : ℕ) (from : y * w ≤ e) where
    row_of_end : y ≤ e / w
    row_of_end = (le-div_iff_mul-le {k = w} {x = y} {y = e} some).1 from

    pub whole_before : (b : ℕ) → Inside w 0 w y (e / w) b → Run (y * w) e b
    whole_before b i = let r = rows_run y (e / w) b i in (r.0, omega (arith, r.1, at e))

    pub last_before : (b : ℕ) → Inside w 0 (e % w) (e / w) (e / w + 1) b → Run (y * w) e b
    last_before b i =
        let r = row_run 0 (e % w) (e / w) b i in
        (omega (arith, r.0, mul-le-mul_right w row_of_end), omega (arith, r.1, at e))

    pub before_end : (b : ℕ) → Run (y * w) e b → Inside w 0 w y (e / w) b ⊎ Inside w 0 (e % w) (e / w) (e / w + 1) b
    before_end b r = by_row (dec_lt b (e / w * w))
      where
        by_row : Dec (b < e / w * w) → Inside w 0 w y (e / w) b ⊎ Inside w 0 (e % w) (e / w) (e / w + 1) b
        by_row (yes q) = inl (run_rows y (e / w) b (r.0, q))
        by_row (no q) = inr (run_row 0 (e % w) (e / w) b (omega (arith, column e)) (omega arith, omega (arith, r.1, at e)))

-- ---- one beside or below the other

wider : {w x x' y y' u u' v v' b : ℕ} → u ≤ x → x' ≤ u' → v ≤ y → y' ≤ v' → Inside w x x' y y' b → Inside w u u' v v' b
wider p q r s i = record {
  left = omega (arith, i.left);
  right = omega (arith, i.right);
  above = omega (arith, i.above);
  below = omega (arith, i.below);
}

module _ (f : Frame) {x x' y y' : ℕ} {out m out' m' out'' m'' : List ℕ} where
  pub swept_columns : (u : ℕ) → x ≤ u → u ≤ x' → SweptOf f (Inside f.picture.w x u y y') out m out' m'
      → SweptOf f (Inside f.picture.w u x' y y') out' m' out'' m'' → SweptOf f (Inside f.picture.w x x' y y') out m out'' m''
  swept_columns u p r =
      swept_two f (λ b i. wider (omega arith) r (omega arith) (omega arith) i) (λ b i. wider p (omega arith) (omega arith) (omega arith) i)
      (λ b i. by_column b i (dec_lt (b % f.picture.w) u))
    where
      by_column : (b : ℕ) → Inside f.picture.w x x' y y' b → Dec (b % f.picture.w < u) → Inside f.picture.w x u y y' b ⊎ Inside f.picture.w u x' y y' b
      by_column b i (yes l) = inl (record { left = i.left; right = l; above = i.above; below = i.below })
      by_column b i (no l) = inr (record { left = omega arith; right = i.right; above = i.above; below = i.below })

  pub swept_rows : (v : ℕ) → y ≤ v → v ≤ y' → SweptOf f (Inside f.picture.w x x' y v) out m out' m'
      → SweptOf f (Inside f.picture.w x x' v y') out' m' out'' m'' → SweptOf f (Inside f.picture.w x x' y y') out m out'' m''
  swept_rows v p r =
      swept_two f (λ b i. wider (omega arith) (omega arith) (omega arith) r i) (λ b i. wider (omega arith) (omega arith) p (omega arith) i)
      (λ b i. by_row b i (dec_lt (b / f.picture.w) v))
    where
      by_row : (b : ℕ) → Inside f.picture.w x x' y y' b → Dec (b / f.picture.w < v) → Inside f.picture.w x x' y v b ⊎ Inside f.picture.w x x' v y' b
      by_row b i (yes l) = inl (record { left = i.left; right = i.right; above = i.above; below = l })
      by_row b i (no l) = inr (record { left = i.left; right = i.right; above = omega arith; below = i.below })

module _ (f : Frame) {out m out' m' : List ℕ} where
  -- n stale blocks side by side
  pub run_swept : (x x' y n : ℕ) → 0 < n → x' ≡ x + n → x' ≤ f.picture.w → stale_in (y * f.picture.w + x) (y * f.picture.w + x + n) m ≡ replicate n true
      → DrawsOf f (blocks_from (y * f.picture.w + x) n) out m out' m' → SweptOf f (Inside f.picture.w x x' y (y + 1)) out m out' m'
  run_swept x x' y n p to l e d = swept_all f d inside all stale
    where
      some : 0 < f.picture.w
      some = omega arith

      inside : (b : ℕ) → has (blocks_from (y * f.picture.w + x) n) b ≡ true → Inside f.picture.w x x' y (y + 1) b
      inside b u =
          let q = has_table n (λ i. y * f.picture.w + x + i) b u in
          run_row f.picture.w some x x' y b l (omega (arith, q.2), omega (arith, q.2, q.1))

      all : (b : ℕ) → Inside f.picture.w x x' y (y + 1) b → has (blocks_from (y * f.picture.w + x) n) b ≡ true
      all b i =
          let r = row_run f.picture.w some x x' y b i in
          let j : ℕ = b - (y * f.picture.w + x) in
          let q : y * f.picture.w + x + j ≡ b = omega (arith, r.0) in
          ap (has (blocks_from (y * f.picture.w + x) n)) (sym q) ∙ table_has n (λ i. y * f.picture.w + x + i) j (omega (arith, r.1))

      stale : (b : ℕ) → Inside f.picture.w x x' y (y + 1) b → is_stale (get_or m b 0) ≡ true
      stale b i =
          let r = row_run f.picture.w some x x' y b i in
          let lo : ℕ = y * f.picture.w + x in
          let j : ℕ = b - lo in
          let q : lo + j ≡ b = omega (arith, r.0) in
          let few : j < n = omega (arith, r.1) in
          ap (λ (b : ℕ). is_stale (get_or m b 0)) (sym q)
          ∙ sym (stale_at lo (lo + n) j m (omega arith))
          ∙ ap (λ (l : List Bool). get_or l j false) e
          ∙ get_or-replicate n j true false few

  -- a window whose stale blocks all lie in columns x to u - 1 and rows v to v' - 1 of it
  pub window_swept : (x x' y y' u v v' : ℕ) → x ≤ u → u ≤ x' → y ≤ v → v ≤ v' → v' ≤ y'
      → Clear f.picture.w x x' y v m → Clear f.picture.w u x' v v' m → Clear f.picture.w x x' v' y' m
      → SweptOf f (Inside f.picture.w x (x + (u - x)) v (v + (v' - v))) out m out' m' → SweptOf f (Inside f.picture.w x x' y y') out m out' m'
  window_swept x x' y y' u v v' p p' r s t above right below k =
      swept_rows f v r (omega arith) (swept_none f out m above)
      (swept_rows f v' s t (swept_columns f u p p' tile (after right)) (after below))
    where
      tile : SweptOf f (Inside f.picture.w x u v v') out m out' m'
      tile =
          swept_as f (λ b i. wider (omega arith) (omega arith) (omega arith) (omega arith) i)
          (λ b i. wider (omega arith) (omega arith) (omega arith) (omega arith) i) k

      after : {a a' c c' : ℕ} → Clear f.picture.w a a' c c' m → SweptOf f (Inside f.picture.w a a' c c') out' m' out' m'
      after u = swept_none f out' m' (λ b i. stays_clear f k.draws b (u b i))

-- a part of the picture lies within the marks
pub part_of : (w h x x' y y' : ℕ) (m : List ℕ) → w ≤ 2048 → h ≤ 2048 → w * h ≤ length m → x ≤ x' → x' ≤ w → y ≤ y' → y' ≤ h → Part w x x' y y' m
part_of w h x x' y y' m wide high long c a r d = record {
  columns = c;
  along = a;
  wide = wide;
  rows = r;
  high = omega arith;
  for_marks = omega (arith, mul-le-mul_right w d);
}
