-- What `scale` and `scale9x` answer and leave, for every input and every setting of clarity. Definitions only.
use Rattle.std.specs.Prelude.{◌≡◌, cond, List, ℕ, ◌*◌, eqb, Float}
use Rattle.picture.specs.Picture.{words}
use Rattle.picture.specs.Fill.{put}
use Rattle.picture.specs.Refusal as Refusal
use Rattle.clarity.specs.declared.Clarity.{Clarity}
use Rattle.sizes.specs.Sizes.{refusal3, refusal9}
use Rattle.enlarged.specs.Whole.{scale_of, singles_of, bytes_of}

-- a buffer with vs at its front, unless the call was refused
abbrev pub filled : {E : Type 0} → ℕ → List E → List E → List E
filled refusal vs buffer = cond (eqb refusal Refusal.none) (put 0 vs buffer) buffer

-- picture, output, singles, bytes at entry; output, singles, bytes at exit; the answer r
pub record Scales (q : Clarity) (w h : ℕ) (p o : List ℕ) (s : List Float) (b : List ℕ)
    (o' : List ℕ) (s' : List Float) (b' : List ℕ) (r : ℕ) : Type 0 where
  pub refusal_now : r ≡ refusal3 q w h p o s b
  pub output_now : o' ≡ filled r (scale_of q w h (words w p)) o
  pub singles_now : s' ≡ filled r (singles_of q w h (words w p)) s
  pub bytes_now : b' ≡ filled r (bytes_of q w h (words w p)) b

-- the same with the middle m: the second pass runs on the whole first result, at the same setting
pub record Scales9 (q : Clarity) (w h : ℕ) (p o m : List ℕ) (s : List Float) (b : List ℕ)
    (o' m' : List ℕ) (s' : List Float) (b' : List ℕ) (r : ℕ) : Type 0 where
  pub refusal_now : r ≡ refusal9 q w h p o m s b
  pub middle_now : m' ≡ filled r (scale_of q w h (words w p)) m
  pub output_now : o' ≡ filled r (scale_of q (3 * w) (3 * h) (words (3 * w) (scale_of q w h (words w p)))) o
  pub singles_now : s' ≡ filled r (singles_of q (3 * w) (3 * h) (words (3 * w) (scale_of q w h (words w p)))) s
  pub bytes_now : b' ≡ filled r (bytes_of q (3 * w) (3 * h) (words (3 * w) (scale_of q w h (words w p)))) b
