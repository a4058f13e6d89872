-- What a block depends on, for every size of picture and for every setting of clarity, lawful or not: section 6's cross, and its nine words.
-- Assumes nothing.
use Rattle.std.specs.Prelude.{◌≡◌, refl, ℕ, ◌<◌, pos, length, get_or}
use Rattle.std.proofs.Common.{arith}
use mathlib.Core.List.{[], ◌∷◌}
use Rattle.picture.specs.Picture.{moved}
use Rattle.picture.specs.Local.{Agree, Match, agreed}
use Rattle.picture.specs.Pipeline as Pipeline
use Rattle.clarity.specs.declared.Clarity.{Clarity}
use Rattle.metric.specs.Metric.{metrics}
use Rattle.weight.specs.Weight.{weights}
use Rattle.junction.specs.Junction.{junctions}
use Rattle.tag.specs.Tag.{tags}
use Rattle.tag.specs.Laws.{offset_reaches}
use Rattle.block.specs.Block.{picture_junctions, picture_tags, tag_word, block_from, block_of}
use Rattle.block.specs.Locality.{tag_of, stages}

module _ (q : Clarity) {w h cols rows : ℕ} {to_x to_y : ℕ → ℕ} {f g : ℕ → ℕ → ℕ} {bx by : ℕ} (hx : bx < w) (hy : by < h) where
  -- a block of one picture is that of another that has the same pixels round it
  pub matched : Match w h cols rows to_x to_y bx by 6 6 3 2 f g → Match w h cols rows to_x to_y bx by 3 3 6 5 f g
      → block_of q w h f bx by ≡ block_of q cols rows g (to_x bx) (to_y by)
  unfolding block_of block_from tag_word picture_tags picture_junctions tags junctions weights metrics Pipeline.block_word Pipeline.tags
      Pipeline.junctions Pipeline.weights Pipeline.metrics stages tag_of
  matched e e' =
      let k = Pipeline.cross (stages q) hx hy (λ t k. offset_reaches (tag_of t k)) e e' in
      λ i. k 0 i ∷ k 1 i ∷ k 2 i ∷ k 3 i ∷ k 4 i ∷ k 5 i ∷ k 6 i ∷ k 7 i ∷ k 8 i ∷ []

module _ (q : Clarity) (w h : ℕ) (f g : ℕ → ℕ → ℕ) (bx by : ℕ) (hx : bx < w) (hy : by < h) where
  -- section 6: block (bx, by) depends on no pixel but those of columns bx - 6 to bx + 6 and rows by - 3 to by + 2, and those of
  -- columns bx - 3 to bx + 3 and rows by - 6 to by + 5
  pub cross : Agree w h bx by 6 6 3 2 f g → Agree w h bx by 3 3 6 5 f g → block_of q w h f bx by ≡ block_of q w h g bx by
  cross e e' = matched q hx hy (agreed e) (agreed e')

-- section 6: a block has nine words, and the middle word is the pixel
pub block_length : (q : Clarity) (w h : ℕ) (f : ℕ → ℕ → ℕ) (x y : ℕ) → length (block_of q w h f x y) ≡ 9
unfolding block_of block_from
block_length q w h f x y = refl

pub middle_word : (q : Clarity) (w h : ℕ) (f : ℕ → ℕ → ℕ) (x y : ℕ) → x < w → y < h → get_or (block_of q w h f x y) 4 0 ≡ f x y
unfolding block_of block_from tag_word moved
middle_word q w h f x y hx hy =
    let ex : moved w x (pos 0) ≡ x = omega arith in
    let ey : moved h y (pos 0) ≡ y = omega arith in
    rw (ex, ey)
