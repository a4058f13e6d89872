-- What `scale_palette` and `scale9x_palette` answer and leave, for every input, palette and setting of clarity. Definitions only.
use Rattle.std.specs.Prelude.{◌≡◌, cond, ◌||◌, List, ℕ, ◌*◌, eqb, ltb, Float, length}
use Rattle.picture.specs.Picture.{words}
use Rattle.picture.specs.Refusal as Refusal
use Rattle.clarity.specs.declared.Clarity.{Clarity}
use Rattle.sizes.specs.Sizes.{refusal_of, asked3, lent3, asked9, lent9}
use Rattle.enlarged.specs.Whole.{scale_of, singles_of, bytes_of}
use Rattle.whole.specs.Calls.{filled}
use Rattle.palette.specs.Palette.{replaced_of}

-- the number f of sides, buffers and setting where it is not 0; else 14 for a palette that is empty or has more than 256 entries, else 0
unfoldable pub refusal_palette : ℕ → ℕ → ℕ
refusal_palette f entries = cond (eqb f Refusal.none) (cond (eqb entries 0 || ltb 256 entries) Refusal.palette Refusal.none) f

-- the calls of `whole` with a buffer x for the replaced picture, which takes as many words as the picture, and a palette
abbrev pub refusal_by3 : Clarity → ℕ → ℕ → (p palette x o : List ℕ) → List Float → List ℕ → ℕ
refusal_by3 q w h p palette x o s b = refusal_palette (refusal_of q (asked3 w h (w * h) (w * h)) (lent3 (length x) p o s b)) (length palette)

abbrev pub refusal_by9 : Clarity → ℕ → ℕ → (p palette x o m : List ℕ) → List Float → List ℕ → ℕ
refusal_by9 q w h p palette x o m s b = refusal_palette (refusal_of q (asked9 w h (w * h) (w * h)) (lent9 (length x) p o m s b)) (length palette)

-- the buffer x of the replaced picture after a call that answers r
abbrev pub replaced_now : (r w h : ℕ) (p palette x : List ℕ) → List ℕ
replaced_now r w h p palette x = filled r (replaced_of palette (w * h) p) x

-- picture, palette, replaced, output, singles, bytes at entry; replaced, output, singles, bytes at exit; the answer r. What is enlarged is
-- the replaced picture
pub record ScalesBy (q : Clarity) (w h : ℕ) (p palette x o : List ℕ) (s : List Float) (b : List ℕ)
    (x' o' : List ℕ) (s' : List Float) (b' : List ℕ) (r : ℕ) : Type 0 where
  pub refusal_now : r ≡ refusal_by3 q w h p palette x o s b
  pub replaced_after : x' ≡ replaced_now r w h p palette x
  pub output_now : o' ≡ filled r (scale_of q w h (words w (replaced_of palette (w * h) p))) o
  pub singles_now : s' ≡ filled r (singles_of q w h (words w (replaced_of palette (w * h) p))) s
  pub bytes_now : b' ≡ filled r (bytes_of q w h (words w (replaced_of palette (w * h) p))) b

-- the same with the middle m: the second pass runs on the whole first result of the replaced picture
pub record ScalesBy9 (q : Clarity) (w h : ℕ) (p palette x o m : List ℕ) (s : List Float) (b : List ℕ)
    (x' o' m' : List ℕ) (s' : List Float) (b' : List ℕ) (r : ℕ) : Type 0 where
  pub refusal_now : r ≡ refusal_by9 q w h p palette x o m s b
  pub replaced_after : x' ≡ replaced_now r w h p palette x
  pub middle_now : m' ≡ filled r (scale_of q w h (words w (replaced_of palette (w * h) p))) m
  pub output_now : o' ≡ filled r (scale_of q (3 * w) (3 * h) (words (3 * w) (scale_of q w h (words w (replaced_of palette (w * h) p))))) o
  pub singles_now : s' ≡ filled r (singles_of q (3 * w) (3 * h) (words (3 * w) (scale_of q w h (words w (replaced_of palette (w * h) p))))) s
  pub bytes_now : b' ≡ filled r (bytes_of q (3 * w) (3 * h) (words (3 * w) (scale_of q w h (words w (replaced_of palette (w * h) p))))) b
