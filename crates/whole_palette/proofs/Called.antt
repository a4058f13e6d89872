-- From the calls of `whole` on the replaced picture to the calls with a palette, as the code makes them: n is w * h, as it was counted.
-- Assumes nothing.
use mathlib.Core.Path.{◌≡◌, refl, sym, ap, ◌∙◌}
use mathlib.Core.List.{List}
use Prim.Native.Nat.{ℕ, ◌*◌, ◌≤◌}
use native.Mathlib.Omega.{arith}
use lib.Ieee.{Float}
use lib.ListN.{length, take}
use Rattle.picture.specs.Picture.{words}
use Rattle.picture.specs.Fill.{put}
use Rattle.clarity.specs.declared.Clarity.{Clarity}
use Rattle.sizes.specs.declared.Lengths.{Lengths}
use Rattle.sizes.specs.Sizes.{refusal_of, asked3, lent3, asked9, lent9}
use Rattle.enlarged.specs.Whole.{scale_of, singles_of, bytes_of}
use Rattle.whole.specs.Calls.{Scales, Scales9, filled}
use Rattle.whole.proofs.Sizes.{written}
use Rattle.palette.specs.Palette.{replaced_of}
use Rattle.whole_palette.specs.Calls.{refusal_palette, refusal_by3, refusal_by9, ScalesBy, ScalesBy9}
use Rattle.whole_palette.proofs.Replaced.{part, ready, plain_taken}

module _ (q : Clarity) (w h : ℕ) (p palette x o : List ℕ) (s : List Float) (b : List ℕ) (n k : ℕ) (l : Lengths) (en : n ≡ w * h)
    (ez : k ≡ 0) (ek : k ≡ refusal_palette (refusal_of q (asked3 w h (w * h) (w * h)) l) (length palette))
    (el : l ≡ lent3 (length x) p o s b) where
  -- the call is not turned away
  number : 0 ≡ refusal_by3 q w h p palette x o s b
  number = sym ez ∙ ek ∙ ap (λ (i : Lengths). refusal_palette (refusal_of q (asked3 w h (w * h) (w * h)) i) (length palette)) el

  pub fits : (n ≤ length p) × (n ≤ length x)
  fits = let k = ready q 2048 w h (w * h) (9 * (w * h)) 0 (8 * (w * h)) p palette x (length o) 0 (length s) (length b) 0 number refl in
      (omega (arith, k.read), omega (arith, k.room))

  pub done : (x' o' : List ℕ) (s' : List Float) (b' : List ℕ) (r : ℕ) → x' ≡ put 0 (replaced_of palette n p) x
      → Scales q w h (take n x') o s b o' s' b' r → ScalesBy q w h p palette x o s b x' o' s' b' r
  done x' o' s' b' r e c =
      let stored : x' ≡ put 0 (replaced_of palette (w * h) p) x = e ∙ ap (λ (i : ℕ). put 0 (replaced_of palette i p) x) en in
      let counted : take n x' ≡ take (w * h) x' = ap (λ (i : ℕ). take i x') en in
      let same : take n x' ≡ replaced_of palette (w * h) p =
      counted ∙ part (w * h) p palette x x' (ready q 2048 w h (w * h) (9 * (w * h)) 0 (8 * (w * h)) p palette x (length o) 0 (length s) (length b) 0 number refl) stored in
      let r0 : r ≡ 0 =
      c.refusal_now ∙ ap (λ (l : List ℕ). refusal_of q (asked3 w h (w * h) 0) (lent3 0 l o s b)) counted
      ∙ plain_taken q 2048 w h (w * h) (9 * (w * h)) 0 (8 * (w * h)) p palette x (length o) 0 (length s) (length b) 0 number refl x' stored in
      record {
        refusal_now = r0 ∙ number;
        replaced_after = written r _ x x' r0 stored;
        output_now = c.output_now ∙ ap (λ (l : List ℕ). filled r (scale_of q w h (words w l)) o) same;
        singles_now = c.singles_now ∙ ap (λ (l : List ℕ). filled r (singles_of q w h (words w l)) s) same;
        bytes_now = c.bytes_now ∙ ap (λ (l : List ℕ). filled r (bytes_of q w h (words w l)) b) same;
      }

module _ (q : Clarity) (w h : ℕ) (p palette x o m : List ℕ) (s : List Float) (b : List ℕ) (n k : ℕ) (l : Lengths) (en : n ≡ w * h)
    (ez : k ≡ 0) (ek : k ≡ refusal_palette (refusal_of q (asked9 w h (w * h) (w * h)) l) (length palette))
    (el : l ≡ lent9 (length x) p o m s b) where
  -- the call is not turned away
  number9 : 0 ≡ refusal_by9 q w h p palette x o m s b
  number9 = sym ez ∙ ek ∙ ap (λ (i : Lengths). refusal_palette (refusal_of q (asked9 w h (w * h) (w * h)) i) (length palette)) el

  pub fits9 : (n ≤ length p) × (n ≤ length x)
  fits9 = let k = ready q 682 w h (w * h) (81 * (w * h)) (9 * (w * h)) (72 * (w * h)) p palette x (length o) (length m) (length s) (length b) 0 number9 refl in
      (omega (arith, k.read), omega (arith, k.room))

  pub done9 : (x' o' m' : List ℕ) (s' : List Float) (b' : List ℕ) (r : ℕ) → x' ≡ put 0 (replaced_of palette n p) x
      → Scales9 q w h (take n x') o m s b o' m' s' b' r → ScalesBy9 q w h p palette x o m s b x' o' m' s' b' r
  done9 x' o' m' s' b' r e c =
      let stored : x' ≡ put 0 (replaced_of palette (w * h) p) x = e ∙ ap (λ (i : ℕ). put 0 (replaced_of palette i p) x) en in
      let counted : take n x' ≡ take (w * h) x' = ap (λ (i : ℕ). take i x') en in
      let same : take n x' ≡ replaced_of palette (w * h) p =
      counted ∙ part (w * h) p palette x x' (ready q 682 w h (w * h) (81 * (w * h)) (9 * (w * h)) (72 * (w * h)) p palette x (length o) (length m) (length s) (length b) 0 number9 refl) stored in
      let r0 : r ≡ 0 =
      c.refusal_now ∙ ap (λ (l : List ℕ). refusal_of q (asked9 w h (w * h) 0) (lent9 0 l o m s b)) counted
      ∙ plain_taken q 682 w h (w * h) (81 * (w * h)) (9 * (w * h)) (72 * (w * h)) p palette x (length o) (length m) (length s) (length b) 0 number9 refl x' stored in
      let again : List ℕ → ℕ → ℕ → ℕ = λ l. words (3 * w) (scale_of q w h (words w l)) in
      record {
        refusal_now = r0 ∙ number9;
        replaced_after = written r _ x x' r0 stored;
        middle_now = c.middle_now ∙ ap (λ (l : List ℕ). filled r (scale_of q w h (words w l)) m) same;
        output_now = c.output_now ∙ ap (λ (l : List ℕ). filled r (scale_of q (3 * w) (3 * h) (again l)) o) same;
        singles_now = c.singles_now ∙ ap (λ (l : List ℕ). filled r (singles_of q (3 * w) (3 * h) (again l)) s) same;
        bytes_now = c.bytes_now ∙ ap (λ (l : List ℕ). filled r (bytes_of q (3 * w) (3 * h) (again l)) b) same;
      }
