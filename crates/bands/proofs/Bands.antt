-- Bands of rows: their stale blocks drawn, all of them or the first n. Assumes nothing.
use mathlib.Core.Path.{◌≡◌, refl, sym, ap, ◌∙◌}
use mathlib.Core.List.{List, [], ◌++◌, append-nil}
use Prim.Native.Nat.{ℕ, zero, suc, ◌+◌, ◌-◌, ◌*◌, ◌/◌, ◌%◌, ◌≤◌, ◌<◌}
use native.Mathlib.Nat.{le-div_iff_mul-le, div-lt_iff_lt-mul, mod-lt, mul-zero, mul-le-mul_right}
use native.Mathlib.Decide.{dec_lt}
use native.Mathlib.Omega.{arith}
use lib.ListN.{length}
use Rattle.machine.specs.Lists.{set_all, count}
use Rattle.machine.proofs.Lists.{first_from_length}
use Rattle.marks.specs.Marks.{stale_in, chosen, Inside}
use Rattle.marks.proofs.Counts.{chosen_split, none_wanted}
use Rattle.screens.specs.declared.frame.Frame.{Frame}
use Rattle.screens.specs.Frames.{Buffers}
use Rattle.stale_runs.specs.Frames.{FirstOf, SweptOf}
use Rattle.stale_runs.proofs.Loops.{draws_same}
use Rattle.stale_runs.proofs.Swept.{swept_two, swept_as, swept_done}
use Rattle.stale_runs.proofs.Parts.{rows_run, run_rows, whole_before, last_before, before_end}

-- ---- where the first n end

-- a run that has fewer stale blocks than one that starts where it does ends before that
end_before : (lo e hi : ℕ) (m : List ℕ) → e ≤ hi → count (stale_in lo e m) < count (stale_in lo hi m) → e < hi
end_before lo e hi m l c = by_end (dec_lt e hi)
  where
    by_end : Dec (e < hi) → e < hi
    by_end (yes q) = q
    by_end (no q) =
        let same : e ≡ hi = omega arith in
        absurd (omega (arith, ap (λ (k : ℕ). count (stale_in lo k m)) same))

-- the row and the column of a block that lies in rows y to y' - 1
pub record End (w y y' e : ℕ) : Type 0 where
  pub some : 0 < w
  pub from : y ≤ e / w
  pub to : e / w < y'
  pub column : e % w < w

some_of : (w y b : ℕ) → b < y * w → 0 < w
some_of zero y b l = absurd (omega (arith, mul-zero y))
some_of (suc w) y b l = omega arith

pub end_of : (w y y' e n : ℕ) (m : List ℕ) → y * w ≤ e → e ≤ y' * w → count (stale_in (y * w) e m) ≡ n → n < count (stale_in (y * w) (y' * w) m)
    → End w y y' e
end_of w y y' e n m lo hi c few =
    let before : e < y' * w = end_before (y * w) e (y' * w) m hi (omega (arith, c)) in
    let some = some_of w y' e before in
    record {
      some = some;
      from = (le-div_iff_mul-le {k = w} {x = y} {y = e} some).1 lo;
      to = (div-lt_iff_lt-mul {k = w} {x = e} {y = y'} some).1 before;
      column = mod-lt e some;
    }

-- ---- a band drawn

-- the band lies within the picture and the marks
record Band (f : Frame) (y y' m : ℕ) : Type 0 where
  up : y * f.picture.w ≤ y' * f.picture.w
  top : y' * f.picture.w ≤ f.picture.w * f.picture.h
  long : y' * f.picture.w ≤ m

band_of : (f : Frame) {y y' o m : ℕ} → Buffers f o m → y ≤ y' → y' ≤ f.picture.h → Band f y y' m
band_of f room ordered inside =
    let top = mul-le-mul_right f.picture.w inside in
    record { up = mul-le-mul_right f.picture.w ordered; top = omega (arith, top); long = omega (arith, top, room.for_marks) }

module _ (f : Frame) {y y' n stale : ℕ} {out m : List ℕ} (room : Buffers f (length out) (length m))
    (ordered : y ≤ y') (inside : y' ≤ f.picture.h) (counted : stale ≡ count (stale_in (y * f.picture.w) (y' * f.picture.w) m)) where
  pub band_all : {out' m' : List ℕ} → stale ≤ n → SweptOf f (Inside f.picture.w 0 f.picture.w y y') out m out' m'
      → FirstOf f (y * f.picture.w) (y' * f.picture.w) n out m out' m' stale
  band_all few s = record {
    stale_before = counted;
    draws =
        swept_done f (y * f.picture.w) (y' * f.picture.w) n
        (swept_as f (λ b i. rows_run f.picture.w (omega (arith, i.right)) y y' b i) (λ b r. run_rows f.picture.w (some_of f.picture.w y' b r.1) y y' b r) s)
        room.for_output band.up band.top band.long (omega (arith, counted));
  }
    where
      band : Band f y y' (length m)
      band = band_of f room ordered inside

  -- whole rows and the first blocks of a row, before the block e
  pub band_part : {out' m' out'' m'' : List ℕ} (e : ℕ) → End f.picture.w y y' e → y * f.picture.w ≤ e → e ≤ y' * f.picture.w
      → count (stale_in (y * f.picture.w) e m) ≡ n
      → SweptOf f (Inside f.picture.w 0 f.picture.w y (e / f.picture.w)) out m out' m'
      → SweptOf f (Inside f.picture.w 0 (e % f.picture.w) (e / f.picture.w) (e / f.picture.w + 1)) out' m' out'' m''
      → FirstOf f (y * f.picture.w) (y' * f.picture.w) n out m out'' m'' stale
  band_part e end lo hi c s t = record {
    stale_before = counted;
    draws =
        draws_same f (sym all) refl refl
        (swept_done f (y * f.picture.w) e n
        (swept_two f (whole_before f.picture.w end.some y e lo) (last_before f.picture.w end.some y e lo) (before_end f.picture.w end.some y e lo) s t)
        room.for_output lo (omega (arith, band.top)) (omega (arith, band.long)) (omega (arith, c)));
  }
    where
      band : Band f y y' (length m)
      band = band_of f room ordered inside

      -- as many as asked for lie before e, so none of the rest is drawn
      first : List ℕ
      first = chosen (y * f.picture.w) e n m

      rest : chosen e (y' * f.picture.w) (n - length first) (set_all first 0 m) ≡ []
      rest = none_wanted e (y' * f.picture.w) n (length first) (set_all first 0 m) (omega (arith, first_from_length (y * f.picture.w) n (stale_in (y * f.picture.w) e m), c))

      all : chosen (y * f.picture.w) (y' * f.picture.w) n m ≡ first
      all = chosen_split (y * f.picture.w) e (y' * f.picture.w) n m lo hi band.long ∙ ap (λ (l : List ℕ). first ++ l) rest ∙ append-nil first
