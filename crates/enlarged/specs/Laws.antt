-- Laws of section 8's definitions: lengths, where a block's words stand, and how the code's stores add up to them. Assumes nothing.
use Rattle.std.specs.Prelude.{◌≡◌, List, ◌++◌, ℕ, zero, suc, ◌+◌, ◌*◌, ◌≤◌, ◌<◌, length}
use Rattle.std.proofs.Math.Path.{refl, ap}
use Rattle.std.proofs.Common.{sym, ◌∙◌, mul_left_comm, add-mul, suc-mul, arith}
use Rattle.std.proofs.Math.Nat.{mul_assoc, mul_comm}
use Rattle.std.proofs.Math.ListN.{get_or, length-append}
use Rattle.picture.specs.Fill.{flat, put, put_put, put_nil, length_put, length_flat, get_or_flat, get_or_flat_below, within}
use Rattle.grid.specs.Grid.{of_metric, of_weights, of_junctions, of_tags}
use Rattle.clarity.specs.declared.Clarity.{Clarity}
use Rattle.clarity.specs.declared.Clarity.TheVariants.{Standard, Threshold}
use Rattle.single.specs.Single.{f½}
use Rattle.metric.specs.Metric.{metrics}
use Rattle.weight.specs.Weight.{corner_weight_of, weights_of, weights}
use Rattle.block.specs.Block.{picture_junctions, picture_tags, block_of}
use Rattle.block.specs.Drawn.{third}
use Rattle.block.specs.Store.{put_row, put_rect}
use Rattle.block.specs.Placed.{third_word}
use Rattle.block.specs.Strips.{strip, strip_length, row_strips}
use Rattle.enlarged.specs.Whole.{all_of, rows_of, scale_of, singles_of, bytes_of}

-- ---- blocks stored one after the other, where the strips are as long as an output row, are three rows of it

row_filled : (ow at w : ℕ) (blocks : ℕ → List ℕ) (l : List ℕ) → at + 3 * ow ≤ length l → ow ≡ 3 * w
    → put_row ow at w blocks l ≡ put at (rows_of w blocks) l
unfolding rows_of
row_filled ow at w blocks l room ew =
    let a = strip blocks 0 w in
    let b = strip blocks 1 w in
    let c = strip blocks 2 w in
    let ea = strip_length blocks 0 w in
    let eb = strip_length blocks 1 w in
    let ec = strip_length blocks 2 w in
    let i1 : at + ow ≡ at + length a = omega arith in
    let i2 : at + 2 * ow ≡ at + length (a ++ b) = omega (arith, length-append a b) in
    row_strips ow at blocks l w (omega arith) (omega arith)
    ∙ ap (λ (i : ℕ). put (at + 2 * ow) c (put i b (put at a l))) i1
    ∙ ap (put (at + 2 * ow) c) (put_put at a b l (omega arith))
    ∙ ap (λ (i : ℕ). put i c (put at (a ++ b) l)) i2
    ∙ put_put at (a ++ b) c l (omega (arith, length-append a b))

-- a row of blocks is nine times as long as the picture's row
rows_length : (w : ℕ) (blocks : ℕ → List ℕ) → length (rows_of w blocks) ≡ 9 * w
unfolding rows_of
rows_length w blocks =
    let e : (r : ℕ) → length (flat w (λ x. third r (blocks x))) ≡ w * 3 = λ r. length_flat 3 (λ x. third r (blocks x)) (λ x. refl) w in
    let a = flat w (λ x. third 0 (blocks x)) in
    let b = flat w (λ x. third 1 (blocks x)) in
    let c = flat w (λ x. third 2 (blocks x)) in
    omega (arith, length-append (a ++ b) c, length-append a b, e 0, e 1, e 2)

-- n rows of blocks, each as wide as the output, fill its front
pub rect_filled : (w n : ℕ) (blocks : ℕ → ℕ → List ℕ) (l : List ℕ) → n * (9 * w) ≤ length l
    → put_rect (3 * w) 0 w n blocks l ≡ put 0 (flat n (λ y. rows_of w (λ x. blocks x y))) l
unfolding put_rect
rect_filled w zero blocks l room = sym (put_nil 0 l (omega arith))
rect_filled w (suc n) blocks l room =
    let rows : ℕ → List ℕ = λ y. rows_of w (λ x. blocks x y) in
    let at = 0 + n * (3 * (3 * w)) in
    let e = length_flat (9 * w) rows (λ y. rows_length w (λ x. blocks x y)) n in
    let r = rows_length w (λ x. blocks x n) in
    let i : at ≡ 0 + length (flat n rows) = omega arith in
    let long = length_put 0 (flat n rows) l (omega (arith, suc-mul n (9 * w))) in
    ap (put_row (3 * w) at w (λ x. blocks x n)) (rect_filled w n blocks l (omega (arith, suc-mul n (9 * w))))
    ∙ row_filled (3 * w) at w (λ x. blocks x n) (put 0 (flat n rows) l) (omega (arith, suc-mul n (9 * w))) refl
    ∙ ap (λ (a : ℕ). put a (rows n) (put 0 (flat n rows) l)) i
    ∙ put_put 0 (flat n rows) (rows n) l (omega (arith, suc-mul n (9 * w)))

-- ---- how long the lists are, and where a block's words stand

pub all_length : {R E : Type 0} (elements : R → List E) → ((r : R) → length (elements r) ≡ 4) → (w h : ℕ) (f : ℕ → ℕ → R)
    → length (all_of elements w h f) ≡ h * (w * 4)
unfolding all_of
all_length elements four w h f =
    length_flat (w * 4) (λ y. flat w (λ x. elements (f x y))) (λ y. length_flat 4 (λ x. elements (f x y)) (λ x. four (f x y)) w) h

places : (by r w : ℕ) → (3 * by + r) * (3 * w) ≡ by * (9 * w) + r * (w * 3)
places by r w = simp (add-mul, mul_assoc, mul_left_comm, mul_comm) (omega arith)

module _ (q : Clarity) (w h : ℕ) (f : ℕ → ℕ → ℕ) where
  pub scale_length : length (scale_of q w h f) ≡ 9 * (w * h)
  unfolding scale_of
  scale_length =
      length_flat (9 * w) (λ y. rows_of w (λ x. block_of q w h f x y)) (λ y. rows_length w (λ x. block_of q w h f x y)) h
      ∙ omega (arith, mul_comm h (9 * w), mul_assoc 9 w h)

  pub singles_length : length (singles_of q w h f) ≡ 8 * (w * h)
  unfolding singles_of
  singles_length =
      let a = all_length of_metric (λ r. refl) w h (metrics w h f) in
      let v = all_length of_weights (λ r. refl) w h (weights q w h (metrics w h f)) in
      length-append (all_of of_metric w h (metrics w h f)) (all_of of_weights w h (weights q w h (metrics w h f)))
      ∙ omega (arith, mul_assoc h w 4, mul_comm h w)

  pub bytes_length : length (bytes_of q w h f) ≡ 8 * (w * h)
  unfolding bytes_of
  bytes_length =
      let a = all_length of_junctions (λ r. refl) w h (picture_junctions q w h f) in
      let v = all_length of_tags (λ r. refl) w h (picture_tags q w h f) in
      length-append (all_of of_junctions w h (picture_junctions q w h f)) (all_of of_tags w h (picture_tags q w h f))
      ∙ omega (arith, mul_assoc h w 4, mul_comm h w)

  -- the three rows of a row of blocks, one after the other
  in_rows : (bx by r c : ℕ) → bx < w → r < 3 → c < 3
      → get_or (rows_of w (λ x. block_of q w h f x by)) (r * (w * 3) + (bx * 3 + c)) 0 ≡ get_or (third r (block_of q w h f bx by)) c 0
  unfolding rows_of
  in_rows bx by r c hx hr hc =
      get_or_flat_below (w * 3) (λ s. flat w (λ x. third s (block_of q w h f x by))) 3
      (λ s k. length_flat 3 (λ x. third s (block_of q w h f x by)) (λ x. refl) w) r
      (bx * 3 + c) 0 hr (within bx w c 3 hx hc)
      ∙ get_or_flat 3 (λ x. third r (block_of q w h f x by)) (λ x. refl) w bx c 0 hx hc

  -- word c of row r of block (bx, by) stands in output row 3 by + r, column 3 bx + c: the output's block is section 6's block
  pub scale_block : (bx by r c : ℕ) → bx < w → by < h → r < 3 → c < 3
      → get_or (scale_of q w h f) ((3 * by + r) * (3 * w) + (3 * bx + c)) 0 ≡ get_or (block_of q w h f bx by) (3 * r + c) 0
  unfolding scale_of
  scale_block bx by r c hx hy hr hc =
      let place : (3 * by + r) * (3 * w) + (3 * bx + c) ≡ by * (9 * w) + (r * (w * 3) + (bx * 3 + c)) =
      omega (arith, places by r w) in
      let inner : r * (w * 3) + (bx * 3 + c) < 9 * w = omega (arith, within r 3 (bx * 3 + c) (w * 3) hr (within bx w c 3 hx hc)) in
      ap (λ (i : ℕ). get_or (scale_of q w h f) i 0) place
      ∙ get_or_flat (9 * w) (λ y. rows_of w (λ x. block_of q w h f x y)) (λ y. rows_length w (λ x. block_of q w h f x y)) h by
      (r * (w * 3) + (bx * 3 + c)) 0 hy inner
      ∙ in_rows bx by r c hx hr hc
      ∙ third_word r c (block_of q w h f bx by) hc

-- ---- the standard is the threshold 0.5, as settings of the weight and so of the whole picture
module _ (w h : ℕ) (f : ℕ → ℕ → ℕ) where
  pub scale_standard : scale_of Standard w h f ≡ scale_of (Threshold f½) w h f
  unfolding scale_of block_of picture_tags picture_junctions weights weights_of corner_weight_of
  scale_standard = refl

  pub singles_standard : singles_of Standard w h f ≡ singles_of (Threshold f½) w h f
  unfolding singles_of weights weights_of corner_weight_of
  singles_standard = refl

  pub bytes_standard : bytes_of Standard w h f ≡ bytes_of (Threshold f½) w h f
  unfolding bytes_of picture_tags picture_junctions weights weights_of corner_weight_of
  bytes_standard = refl
