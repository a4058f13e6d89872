-- The passes over a whole picture leave section 8's lists. Assumes nothing.
use Rattle.std.specs.Prelude.{◌≡◌, refl, List, ◌++◌, ℕ, ◌+◌, ◌-◌, ◌*◌, ◌≤◌, ◌<◌, Float, length, drop}
use Rattle.std.proofs.Common.{sym, ◌∙◌, ap₂}
use Rattle.std.proofs.Math.Path.{ap}
use Rattle.std.proofs.Math.Nat.{zero-add, mul_assoc}
use native.Mathlib.Omega.{arith}
use Rattle.std.specs.Float.Ieee.{nan}
use Rattle.picture.specs.Picture.{words}
use Rattle.picture.specs.Local.{In}
use Rattle.picture.specs.Fill.{flat_same, put, put_put, length_put}
use Rattle.clarity.specs.declared.Clarity.{Clarity}
use Rattle.metric.specs.Metric.{metrics}
use Rattle.weight.specs.Weight.{weights}
use Rattle.grid.specs.declared.Grid.{Grid}
use Rattle.grid.specs.Grid.{of_metric, of_weights, of_junctions, of_tags, tags_field, tags_at, row_of, rect_of}
use Rattle.grid.specs.Kept.{Holds, Spans, holds_drop, rect_length, tags_kept}
use Rattle.block.specs.Block.{picture_junctions, picture_tags, block_from, block_of}
use Rattle.passes.specs.Window.{Passed}
use Rattle.block.specs.Store.{put_rect}
use Rattle.block.specs.StoreLaws.{rect_same}
use Rattle.enlarged.specs.Whole.{all_of, scale_of, singles_of, bytes_of}
use Rattle.enlarged.specs.Laws.{rect_filled}

-- the buffers' lengths suffice, and the sides are small enough to count with
pub record Fits (w h p o s b : ℕ) : Type 0 where
  pub wide : w ≤ 2048
  pub high : h ≤ 2048
  pub picture : w * h ≤ p
  pub output : 9 * (w * h) ≤ o
  pub singles : 8 * (w * h) ≤ s
  pub bytes : 8 * (w * h) ≤ b

pub record Enlarged (q : Clarity) (w h : ℕ) (p o : List ℕ) (s : List Float) (b o' : List ℕ) (s' : List Float) (b' : List ℕ) : Type 0 where
  pub output_is : o' ≡ put 0 (scale_of q w h (words w p)) o
  pub singles_are : s' ≡ put 0 (singles_of q w h (words w p)) s
  pub bytes_are : b' ≡ put 0 (bytes_of q w h (words w p)) b

-- the picture as one rectangle, and that row by row
abbrev grid_of : ℕ → ℕ → Grid
grid_of w h = record { x0 = 0; y0 = 0; cols = w; rows = h }

rect_all : (w h : ℕ) {R E : Type 0} (elements : R → List E) (f : ℕ → ℕ → R) → rect_of elements (grid_of w h) f ≡ all_of elements w h f
unfolding rect_of row_of all_of
rect_all w h elements f =
    flat_same h _ _ (λ y hy. flat_same w _ _
    (λ x hx. ap (λ (a : ℕ). elements (f a (0 + y))) (zero-add x) ∙ ap (λ (b : ℕ). elements (f x b)) (zero-add y)))

-- two rectangles of it one after the other are one list
joined : (w h : ℕ) {R R' E : Type 0} (none : E) (elements : R → List E) (elements' : R' → List E) (f : ℕ → ℕ → R) (f' : ℕ → ℕ → R')
    → ((r : R) → length (elements r) ≡ 4) → ((r : R') → length (elements' r) ≡ 4) → (l l' : List E) → 8 * (w * h) ≤ length l
    → l' ≡ put (h * (w * 4)) (rect_of elements' (grid_of w h) f') (put 0 (rect_of elements (grid_of w h) f) l)
    → l' ≡ put 0 (all_of elements w h f ++ all_of elements' w h f') l
joined w h {R} {R'} {E} none elements elements' f f' four four' l l' room e =
    let u = rect_of elements (grid_of w h) f in
    let v = rect_of elements' (grid_of w h) f' in
    let n = rect_length none elements four (grid_of w h) f in
    let m = rect_length none elements' four' (grid_of w h) f' in
    e
    ∙ ap (λ (i : ℕ). put i v (put 0 u l)) (sym n ∙ sym (zero-add (length u)))
    ∙ put_put 0 u v l (omega arith)
    ∙ ap (λ (r : List E). put 0 r l) (ap₂ {C = List E} ◌++◌ (rect_all w h elements f) (rect_all w h elements' f'))

-- the passes over all pixels, and then the blocks by the tags from the cut on
module _ (q : Clarity) (w h : ℕ) (p o o' : List ℕ) (s s' : List Float) (b b' : List ℕ)
    (fits : Fits w h (length p) (length o) (length s) (length b))
    (k : Passed q w h (words w p) (grid_of w h) (grid_of w h) (grid_of w h) (grid_of w h) (h * (w * 4)) (h * (w * 4)) s s' b b') where
  abbrev f : ℕ → ℕ → ℕ
  f = words w p

  abbrev held_tags : List ℕ
  held_tags = drop (h * (w * 4)) b'

  long : length (put 0 (rect_of of_junctions (grid_of w h) (picture_junctions q w h f)) b) ≡ length b
  long = length_put 0 (rect_of of_junctions (grid_of w h) (picture_junctions q w h f)) b
      (omega (arith, fits.bytes, rect_length 0 of_junctions (λ r. refl) (grid_of w h) (picture_junctions q w h f)))

  held : Holds 0 of_tags (λ r. refl) (grid_of w h) (picture_tags q w h f) held_tags
  held = rw k.bytes_are
      (holds_drop 0 of_tags (λ r. refl) (grid_of w h) (picture_tags q w h f) (h * (w * 4)) _ (omega (arith, fits.bytes, long)))

  -- the tags of a row, counted from the row's start, are the picture's
  row_tags : (x y : ℕ) → x < w → y < h → tags_at held_tags (y * (w * 4) + x * 4) ≡ picture_tags q w h f x y
  unfolding tags_field
  row_tags x y hx hy =
      let z : y - 0 ≡ y = omega arith in
      let i : y * (w * 4) + x * 4 ≡ ((y - 0) * w + (x - 0)) * 4 = omega (arith, mul_assoc y w 4, ap (λ (n : ℕ). n * w) z) in
      let o : In w h x y 0 0 0 0 x y =
      record { on_x = hx; on_y = hy; left = omega arith; right = omega arith; above = omega arith; below = omega arith } in
      let s : Spans (grid_of w h) w h x y 0 0 0 0 =
      record { left = omega arith; right = omega arith; above = omega arith; below = omega arith } in
      ap (tags_at held_tags) i ∙ tags_kept (grid_of w h) w h x y 0 0 0 0 s (picture_tags q w h f) held_tags held x y o

  pub enlarged : o' ≡ put_rect (3 * w) 0 w h (λ i j. block_from w h f (0 + i) (0 + j) (tags_at held_tags (0 + j * (w * 4) + i * 4))) o
      → Enlarged q w h p o s b o' s' b'
  unfolding scale_of singles_of bytes_of block_of
  enlarged e = record {
    output_is = e
        ∙ rect_same (3 * w) 0 w h _ _ o (λ x y hx hy. rw (zero-add x, zero-add y, zero-add (y * (w * 4)), row_tags x y hx hy))
        ∙ rect_filled w h (block_of q w h f) o (omega (arith, fits.output));
    singles_are = joined w h nan of_metric of_weights (metrics w h f) (weights q w h (metrics w h f)) (λ r. refl) (λ r. refl) s s'
        fits.singles k.singles_are;
    bytes_are = joined w h 0 of_junctions of_tags (picture_junctions q w h f) (picture_tags q w h f) (λ r. refl) (λ r. refl) b b'
        fits.bytes k.bytes_are;
  }
