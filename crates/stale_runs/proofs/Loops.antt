-- Blocks drawn one after the other, and the first n stale ones drawn part by part. Assumes nothing.
use mathlib.Core.Path.{◌≡◌, refl, sym, ap, ap₂, ◌∙◌}
use mathlib.Core.List.{List, [], ◌++◌}
use Prim.Native.Nat.{ℕ, ◌+◌, ◌-◌, ◌*◌, ◌≤◌}
use native.Mathlib.Omega.{arith}
use lib.ListN.{length, take}
use Rattle.machine.specs.Lists.{set_all, count}
use Rattle.machine.specs.Machine.{put_all}
use Rattle.machine.proofs.Lists.{length_set_all, set_all_two, first_from_length}
use Rattle.machine.proofs.Good.{length_put_all, put_all_two}
use Rattle.marks.specs.Marks.{stale_in, chosen}
use Rattle.marks.proofs.Counts.{chosen_split, count_split, count_run_le, stale_after}
use Rattle.screens.specs.declared.frame.Frame.{Frame}
use Rattle.screens.specs.Screens.{screen_of}
use Rattle.screens.specs.Frames.{Buffers}
use Rattle.stale_runs.specs.Frames.{DrawsOf, FirstOf}

-- buffers of the same lengths are as long
pub buffers_still : {f : Frame} {o m o' m' : ℕ} → Buffers f o m → o' ≡ o → m' ≡ m → Buffers f o' m'
buffers_still l e g = record { for_output = omega (arith, l.for_output, e); for_marks = omega (arith, l.for_marks, g) }

module _ (f : Frame) where
  -- the blocks bs drawn from the frame
  abbrev drawn : List ℕ → List ℕ → List ℕ
  drawn = put_all (screen_of f.scale) f.picture.w f.picture.h f.clarity (take (f.picture.w * f.picture.h) f.picture.words.now)

  drawn_two : (bs cs out : List ℕ) → drawn (bs ++ cs) out ≡ drawn cs (drawn bs out)
  drawn_two =
      put_all_two (screen_of f.scale) f.picture.w f.picture.h f.clarity (take (f.picture.w * f.picture.h) f.picture.words.now)

  length_drawn : (bs out : List ℕ) → length (drawn bs out) ≡ length out
  length_drawn =
      length_put_all (screen_of f.scale) f.picture.w f.picture.h f.clarity (take (f.picture.w * f.picture.h) f.picture.words.now)

  -- lists of blocks
  pub draws_none : (out m : List ℕ) → DrawsOf f [] out m out m
  draws_none out m = record { output_now = refl; marks_now = refl }

  pub draws_two : {bs cs out m out' m' out'' m'' : List ℕ} → DrawsOf f bs out m out' m' → DrawsOf f cs out' m' out'' m''
      → DrawsOf f (bs ++ cs) out m out'' m''
  draws_two {bs} {cs} {out} {m} k l = record {
    output_now =
        l.output_now ∙ ap (drawn cs) k.output_now ∙ sym (drawn_two bs cs out);
    marks_now = l.marks_now ∙ ap (set_all cs 0) k.marks_now ∙ sym (set_all_two bs cs 0 m);
  }

  -- the same blocks, and what equals what they leave
  pub draws_same : {bs cs out m out' m' out'' m'' : List ℕ} → bs ≡ cs → out'' ≡ out' → m'' ≡ m' → DrawsOf f bs out m out' m'
      → DrawsOf f cs out m out'' m''
  draws_same {bs} {cs} {out} {m} e eo em k = record {
    output_now = eo ∙ k.output_now ∙ ap (λ (l : List ℕ). drawn l out) e;
    marks_now = em ∙ k.marks_now ∙ ap (λ (l : List ℕ). set_all l 0 m) e;
  }

  module _ {bs out m out' m' : List ℕ} (k : DrawsOf f bs out m out' m') where
    pub draws_output_length : length out' ≡ length out
    draws_output_length = ap length k.output_now ∙ length_drawn bs out

    pub draws_marks_length : length m' ≡ length m
    draws_marks_length = ap length k.marks_now ∙ length_set_all bs 0 m

  -- where none is to be drawn
  pub first_none : {lo hi n c : ℕ} (out m : List ℕ) → c ≡ count (stale_in lo hi m) → chosen lo hi n m ≡ [] → FirstOf f lo hi n out m out m c
  first_none out m e none = record { stale_before = e; draws = draws_same (sym none) refl refl (draws_none out m) }

  -- no more were stale than there are
  pub first_few : {lo hi n c : ℕ} {out m out' m' : List ℕ} → hi ≤ length m → FirstOf f lo hi n out m out' m' c → c ≤ hi - lo
  first_few {lo} {hi} {n} {c} {out} {m} l k = omega (arith, k.stale_before, count_run_le lo hi m l)

  -- the first n stale blocks: of those before i, and then of those from i on
  pub first_more : {i j n s c t : ℕ} {out m out' m' out'' m'' : List ℕ} → i ≤ j → j ≤ length m → t ≡ s + c
      → FirstOf f 0 i n out m out' m' s → FirstOf f i j (n - s) out' m' out'' m'' c → FirstOf f 0 j n out m out'' m'' t
  first_more {i} {j} {n} {s} {c} {t} {out} {m} {out'} {m'} a l e k q = record {
    stale_before =
        e ∙ ap₂ ◌+◌ k.stale_before (q.stale_before ∙ ap count same) ∙ sym (count_split 0 i j m (omega arith) a);
    draws = draws_same split refl refl (draws_two k.draws q.draws);
  }
    where
      same : stale_in i j m' ≡ stale_in i j m
      same = ap (stale_in i j) k.draws.marks_now ∙ stale_after 0 i j n m (omega arith) a l

      left : n - length (chosen 0 i n m) ≡ n - s
      left = omega (arith, first_from_length 0 n (stale_in 0 i m), k.stale_before)

      split : (chosen 0 i n m ++ chosen i j (n - s) m') ≡ chosen 0 j n m
      split =
          ap₂ (λ (d : ℕ) (l : List ℕ). chosen 0 i n m ++ chosen i j d l) (sym left) k.draws.marks_now
          ∙ sym (chosen_split 0 i j n m (omega arith) a l)
