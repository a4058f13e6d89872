-- The standard is the threshold 0.5, as settings of the weight and so of a block; settings that count as equal have the same blocks.
-- Assumes nothing.
use Rattle.std.specs.Prelude.{◌≡◌, refl, ℕ}
use Rattle.std.proofs.Common.{sym, ap, ◌∙◌}
use Rattle.clarity.specs.declared.Clarity.{Clarity}
use Rattle.clarity.specs.declared.Clarity.TheVariants.{Standard, Threshold, Gated}
use Rattle.clarity.specs.Clarity.{plainly}
use Rattle.single.specs.Single.{f½}
use Rattle.weight.specs.Weight.{corner_weight_of, weights_of, weights}
use Rattle.block.specs.Block.{picture_junctions, picture_tags, block_of}

pub block_standard : (w h : ℕ) (f : ℕ → ℕ → ℕ) (x y : ℕ) → block_of Standard w h f x y ≡ block_of (Threshold f½) w h f x y
unfolding block_of picture_tags picture_junctions weights weights_of corner_weight_of
block_standard w h f x y = refl

-- each setting has the block of the one that it counts as, and so do two that count as equal
as_plainly : (q : Clarity) (w h : ℕ) (f : ℕ → ℕ → ℕ) (x y : ℕ) → block_of q w h f x y ≡ block_of (plainly q) w h f x y
as_plainly Standard w h f x y = block_standard w h f x y
as_plainly (Threshold t) w h f x y = refl
as_plainly (Gated t) w h f x y = refl

pub block_settings : (c d : Clarity) → plainly c ≡ plainly d → (w h : ℕ) (f : ℕ → ℕ → ℕ) (x y : ℕ)
    → block_of c w h f x y ≡ block_of d w h f x y
block_settings c d e w h f x y =
    as_plainly c w h f x y ∙ ap (λ (q : Clarity). block_of q w h f x y) e ∙ sym (as_plainly d w h f x y)
