-- Section 8: a whole picture enlarged at a setting of clarity, and the records of its passes, in row order. Definitions only.
use Rattle.std.specs.Prelude.{List, ◌++◌, ℕ, Float}
use Rattle.picture.specs.Fill.{flat}
use Rattle.clarity.specs.declared.Clarity.{Clarity}
use Rattle.metric.specs.Metric.{metrics}
use Rattle.weight.specs.Weight.{weights}
use Rattle.grid.specs.Grid.{of_metric, of_weights, of_junctions, of_tags}
use Rattle.block.specs.Block.{picture_junctions, picture_tags, block_of}
use Rattle.block.specs.Drawn.{third}

-- the records of all pixels, row by row
unfoldable pub all_of : {R E : Type 0} → (R → List E) → ℕ → ℕ → (ℕ → ℕ → R) → List E
all_of elements w h f = flat h (λ y. flat w (λ x. elements (f x y)))

-- the three output rows of a row of blocks: row r of each block, side by side
unfoldable pub rows_of : ℕ → (ℕ → List ℕ) → List ℕ
rows_of w blocks = flat 3 (λ r. flat w (λ x. third r (blocks x)))

module _ (q : Clarity) (w h : ℕ) (f : ℕ → ℕ → ℕ) where
  -- the output of three-times: 3h rows of 3w words
  unfoldable pub scale_of : List ℕ
  scale_of = flat h (λ y. rows_of w (λ x. block_of q w h f x y))

  -- all metrics, then all weights
  unfoldable pub singles_of : List Float
  singles_of = all_of of_metric w h (metrics w h f) ++ all_of of_weights w h (weights q w h (metrics w h f))

  -- all n, then all t
  unfoldable pub bytes_of : List ℕ
  bytes_of = all_of of_junctions w h (picture_junctions q w h f) ++ all_of of_tags w h (picture_tags q w h f)
