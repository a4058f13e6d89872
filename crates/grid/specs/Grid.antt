-- Records kept for a rectangle of the picture, four elements each, row by row: how a record stands in a list, and
-- the field that a list holds. Definitions only.
use Rattle.std.specs.Prelude.{List, [], ◌∷◌, ℕ, ◌+◌, ◌-◌, ◌*◌, Float, get_or}
use Rattle.std.specs.Float.{nan}
use Rattle.picture.specs.Fill.{flat}
use Rattle.metric.specs.declared.Metric.{Metric}
use Rattle.metric.specs.declared.Weights.{Weights}
use Rattle.junction.specs.declared.Junctions.{Junctions}
use Rattle.tag.specs.declared.Tags.{Tags}
use Rattle.grid.specs.declared.Grid.{Grid}

-- a record as four elements
abbrev pub of_metric : Metric → List Float
of_metric m = m.tl ∷ m.t ∷ m.tr ∷ m.r ∷ []

abbrev pub of_weights : Weights → List Float
of_weights v = v.w0 ∷ v.w1 ∷ v.w2 ∷ v.w3 ∷ []

abbrev pub of_junctions : Junctions → List ℕ
of_junctions j = j.n0 ∷ j.n1 ∷ j.n2 ∷ j.n3 ∷ []

abbrev pub of_tags : Tags → List ℕ
of_tags t = t.t0 ∷ t.t1 ∷ t.t2 ∷ t.t3 ∷ []

-- the record that starts at element i of a list
unfoldable pub metric_at : List Float → ℕ → Metric
metric_at l i = record { tl = get_or l i nan; t = get_or l (i + 1) nan; tr = get_or l (i + 2) nan; r = get_or l (i + 3) nan }

unfoldable pub weights_at : List Float → ℕ → Weights
weights_at l i = record { w0 = get_or l i nan; w1 = get_or l (i + 1) nan; w2 = get_or l (i + 2) nan; w3 = get_or l (i + 3) nan }

unfoldable pub junctions_at : List ℕ → ℕ → Junctions
junctions_at l i = record { n0 = get_or l i 0; n1 = get_or l (i + 1) 0; n2 = get_or l (i + 2) 0; n3 = get_or l (i + 3) 0 }

unfoldable pub tags_at : List ℕ → ℕ → Tags
tags_at l i = record { t0 = get_or l i 0; t1 = get_or l (i + 1) 0; t2 = get_or l (i + 2) 0; t3 = get_or l (i + 3) 0 }

-- where the record of (x, y) starts
abbrev pub start_of : Grid → ℕ → ℕ → ℕ
start_of g x y = ((y - g.y0) * g.cols + (x - g.x0)) * 4

-- the field that a list holds of the rectangle g
unfoldable pub metric_field : Grid → List Float → ℕ → ℕ → Metric
metric_field g l x y = metric_at l (start_of g x y)

unfoldable pub weights_field : Grid → List Float → ℕ → ℕ → Weights
weights_field g l x y = weights_at l (start_of g x y)

unfoldable pub junctions_field : Grid → List ℕ → ℕ → ℕ → Junctions
junctions_field g l x y = junctions_at l (start_of g x y)

unfoldable pub tags_field : Grid → List ℕ → ℕ → ℕ → Tags
tags_field g l x y = tags_at l (start_of g x y)

module _ {R E : Type 0} (elements : R → List E) (g : Grid) (f : ℕ → ℕ → R) where
  -- the rectangle's part of row y of a field, and the whole rectangle, row by row
  unfoldable pub row_of : ℕ → List E
  row_of y = flat g.cols (λ i. elements (f (g.x0 + i) y))

  unfoldable pub rect_of : List E
  rect_of = flat g.rows (λ j. row_of (g.y0 + j))
