-- Two pictures that agree at every position have the same output, singles and bytes; so the words of a buffer past the picture are not read.
-- Assumes nothing.
use mathlib.Core.Path.{◌≡◌, refl, sym, ap, ap₂}
use mathlib.Core.Bool.{Bool, true, false}
use mathlib.Core.List.{List, ◌++◌}
use Prim.Native.Nat.{ℕ, ◌+◌, ◌*◌, ◌<◌}
use native.Mathlib.Omega.{arith}
use lib.Dec.{ltb}
use lib.Ieee.{Float}
use lib.ListN.{length, take, length-take}
use lib.Seq.{get_or-take}
use borrow.Author.Tests.{lt-ltb, le-ltb, ltb-true, ltb-false}
use Rattle.picture.specs.Picture.{words}
use Rattle.picture.specs.Fill.{flat_same, within}
use Rattle.picture.specs.Local.{Match, agreed, here}
use Rattle.picture.specs.Pipeline as Pipeline
use Rattle.clarity.specs.declared.Clarity.{Clarity}
use Rattle.metric.specs.Metric.{metrics}
use Rattle.weight.specs.Weight.{weights}
use Rattle.junction.specs.Junction.{junctions}
use Rattle.tag.specs.Tag.{tags}
use Rattle.grid.specs.Grid.{of_metric, of_weights, of_junctions, of_tags}
use Rattle.block.specs.Block.{picture_junctions, picture_tags}
use Rattle.block.specs.Drawn.{third}
use Rattle.block.specs.Locality.{stages}
use Rattle.block.proofs.Cross.{cross}
use Rattle.enlarged.specs.Whole.{all_of, rows_of, scale_of, singles_of, bytes_of}

-- the records of all pixels, of fields that agree on the picture
all_same : {R E : Type 0} (elements : R → List E) (w h : ℕ) (f g : ℕ → ℕ → R) → ((x y : ℕ) → x < w → y < h → f x y ≡ g x y)
    → all_of elements w h f ≡ all_of elements w h g
unfolding all_of
all_same elements w h f g e = flat_same h _ _ (λ y hy. flat_same w _ _ (λ x hx. ap elements (e x y hx hy)))

module _ (q : Clarity) (w h : ℕ) (f g : ℕ → ℕ → ℕ) (e : (x y : ℕ) → x < w → y < h → f x y ≡ g x y) where
  -- the fields match round every position, however far
  round : (bx by l r u d : ℕ) → Match w h w h (λ x. x) (λ y. y) bx by l r u d f g
  round bx by l r u d = agreed (λ x y i. e x y i.on_x i.on_y)

  metrics_same : (x y : ℕ) → x < w → y < h → metrics w h f x y ≡ metrics w h g x y
  unfolding metrics Pipeline.metrics stages
  metrics_same x y hx hy = (Pipeline.metrics_agree (stages q) (round x y (0 + 1) (0 + 1) (0 + 1) (0 + 0))).same x y (here hx hy)

  weights_same : (x y : ℕ) → x < w → y < h → weights q w h (metrics w h f) x y ≡ weights q w h (metrics w h g) x y
  unfolding weights metrics Pipeline.weights Pipeline.metrics stages
  weights_same x y hx hy =
      (Pipeline.weights_agree (stages q) (Pipeline.metrics_agree (stages q) (round x y (0 + 1 + 1) (0 + 1 + 1) (0 + 1 + 1) (0 + 1 + 0)))).same x y (here hx hy)

  junctions_same : (x y : ℕ) → x < w → y < h → picture_junctions q w h f x y ≡ picture_junctions q w h g x y
  unfolding picture_junctions junctions weights metrics Pipeline.junctions Pipeline.weights Pipeline.metrics stages
  junctions_same x y hx hy = (Pipeline.of_picture (stages q) (round x y (0 + 3) (0 + 3) (0 + 3) (0 + 2))).same x y (here hx hy)

  tags_same : (x y : ℕ) → x < w → y < h → picture_tags q w h f x y ≡ picture_tags q w h g x y
  unfolding picture_tags picture_junctions tags junctions weights metrics Pipeline.tags Pipeline.junctions Pipeline.weights Pipeline.metrics stages
  tags_same x y hx hy =
      Pipeline.tags_agree (stages q) hx hy (Pipeline.of_picture (stages q) (round x y (0 + 3 + 3) (0 + 3 + 3) (0 + 3) (0 + 2)))
      (Pipeline.of_picture (stages q) (round x y (0 + 3) (0 + 3) (0 + 3 + 3) (0 + 3 + 2)))

  pub output_same : scale_of q w h f ≡ scale_of q w h g
  unfolding scale_of rows_of
  output_same =
      flat_same h _ _ (λ y hy. flat_same 3 _ _ (λ r hr. flat_same w _ _ (λ x hx.
      ap (third r) (cross q w h f g x y hx hy (λ c d i. e c d i.on_x i.on_y) (λ c d i. e c d i.on_x i.on_y)))))

  pub singles_same : singles_of q w h f ≡ singles_of q w h g
  unfolding singles_of
  singles_same =
      ap₂ {C = List Float} ◌++◌ (all_same of_metric w h (metrics w h f) (metrics w h g) metrics_same)
      (all_same of_weights w h (weights q w h (metrics w h f)) (weights q w h (metrics w h g)) weights_same)

  pub bytes_same : bytes_of q w h f ≡ bytes_of q w h g
  unfolding bytes_of
  bytes_same =
      ap₂ {C = List ℕ} ◌++◌ (all_same of_junctions w h (picture_junctions q w h f) (picture_junctions q w h g) junctions_same)
      (all_same of_tags w h (picture_tags q w h f) (picture_tags q w h g) tags_same)

-- a picture's words stand in the front of its buffer
pub front_words : (w h : ℕ) (p : List ℕ) (x y : ℕ) → x < w → y < h → words w p x y ≡ words w (take (w * h) p) x y
front_words w h p x y hx hy = sym (get_or-take (w * h) p (y * w + x) 0 (omega (arith, within y h x w hy hx)))

-- and whether the buffer is short is told by its front
pub front_short : (n : ℕ) (p : List ℕ) → ltb (length p) n ≡ ltb (length (take n p)) n
front_short n p = go (ltb (length p) n) refl
  where
    go : (t : Bool) → ltb (length p) n ≡ t → t ≡ ltb (length (take n p)) n
    go true k = sym (lt-ltb (length (take n p)) n (omega (arith, ltb-true (length p) n k, length-take n p)))
    go false k = sym (le-ltb (length (take n p)) n (omega (arith, ltb-false (length p) n k, length-take n p)))
