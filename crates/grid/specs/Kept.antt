-- Records that were stored of a rectangle are read back: on the rectangle, the field that the list holds is the field that was stored.
-- Assumes nothing.
use Rattle.std.specs.Prelude.{◌≡◌, refl, Float, length, take, drop}
use Rattle.std.proofs.Common.{sym, ◌∙◌, zero-add, add-zero, mul_assoc}
use Rattle.std.proofs.Math.Path.{ap}
use mathlib.Core.List.{List}
use Prim.Native.Nat.{ℕ, ◌+◌, ◌-◌, ◌*◌, ◌≤◌, ◌<◌, min}
use native.Mathlib.Omega.{arith}
use Rattle.std.specs.Float.Ieee.{nan}
use Rattle.std.proofs.Math.ListN.{get_or}
use Rattle.std.proofs.Math.Seq.{get_or-take, get_or-drop}
use Rattle.picture.specs.Fill.{put, get_or_put, get_or_rect, length_flat, length_rect, within}
use Rattle.picture.specs.Local.{In, Agree}
use Rattle.metric.specs.declared.Metric.{Metric}
use Rattle.metric.specs.declared.Weights.{Weights}
use Rattle.junction.specs.declared.Junctions.{Junctions}
use Rattle.tag.specs.declared.Tags.{Tags}
use Rattle.grid.specs.declared.Grid.{Grid}
use Rattle.grid.specs.Grid.{of_metric, of_weights, of_junctions, of_tags, metric_at, weights_at, junctions_at, tags_at}
use Rattle.grid.specs.Grid.{start_of, metric_field, weights_field, junctions_field, tags_field, row_of, rect_of}
use Rattle.grid.specs.Room.{Within}

-- a record of the rectangle ends before the rectangle does
pub start_in : (g : Grid) (x y : ℕ) → Within g x y → start_of g x y + 4 ≤ g.rows * (g.cols * 4)
start_in g x y i =
    let inside = within (y - g.y0) g.rows (x - g.x0) g.cols (omega arith) (omega arith) in
    omega (arith, mul_assoc g.rows g.cols 4)

-- a row of records of four elements each
pub row_long : {R E : Type 0} (elements : R → List E) → ((r : R) → length (elements r) ≡ 4) → (g : Grid) (f : ℕ → ℕ → R) (y : ℕ)
    → length (row_of elements g f y) ≡ g.cols * 4
unfolding row_of
row_long elements four g f y = length_flat 4 (λ i. elements (f (g.x0 + i) y)) (λ i. four (f (g.x0 + i) y)) g.cols

module _ {R E : Type 0} (none : E) (elements : R → List E) (four : (r : R) → length (elements r) ≡ 4) (g : Grid) (f : ℕ → ℕ → R) where
  -- l holds the rectangle's elements at its front
  pub Holds : List E → Type 0
  Holds l = (i : ℕ) → i < g.rows * (g.cols * 4) → get_or l i none ≡ get_or (rect_of elements g f) i none

  pub rect_length : length (rect_of elements g f) ≡ g.rows * (g.cols * 4)
  unfolding rect_of row_of
  rect_length = length_rect 4 g.cols g.rows (λ i n. elements (f (g.x0 + i) (g.y0 + n))) (λ i n. four (f (g.x0 + i) (g.y0 + n)))

  pub row_length : (y : ℕ) → length (row_of elements g f y) ≡ g.cols * 4
  row_length y = row_long elements four g f y

  -- element j of the record of (x, y)
  pub element : (l : List E) → Holds l → (x y : ℕ) → Within g x y → (j : ℕ) → j < 4
      → get_or l (start_of g x y + j) none ≡ get_or (elements (f x y)) j none
  unfolding Holds rect_of row_of
  element l k x y i j hj =
      let r : ℕ → ℕ → List E = λ i n. elements (f (g.x0 + i) (g.y0 + n)) in
      let ex : g.x0 + (x - g.x0) ≡ x = omega arith in
      let ey : g.y0 + (y - g.y0) ≡ y = omega arith in
      k (start_of g x y + j) (omega (arith, start_in g x y i))
      ∙ get_or_rect 4 g.cols g.rows r (λ i n. four (f (g.x0 + i) (g.y0 + n))) (x - g.x0) (y - g.y0) j none (omega arith)
      (omega arith) hj
      ∙ ap (λ (i : ℕ). get_or (elements (f i (g.y0 + (y - g.y0)))) j none) ex
      ∙ ap (λ (i : ℕ). get_or (elements (f x i)) j none) ey

  -- a list into which the rectangle was put holds it: at the front, before a cut, and from a cut on
  pub holds_put : (l : List E) → Holds (put 0 (rect_of elements g f) l)
  unfolding Holds
  holds_put l i hi =
      ap (λ (n : ℕ). get_or (put 0 (rect_of elements g f) l) n none) (sym (zero-add i))
      ∙ get_or_put 0 (rect_of elements g f) l i none (omega (arith, rect_length)) (omega arith)

  pub holds_take : (cut : ℕ) (l : List E) → g.rows * (g.cols * 4) ≤ cut → Holds l → Holds (take cut l)
  unfolding Holds
  holds_take cut l h k i hi = get_or-take cut l i none (omega arith) ∙ k i hi

  pub holds_drop : (cut : ℕ) (l : List E) → cut ≤ length l → Holds (drop cut (put cut (rect_of elements g f) l))
  unfolding Holds
  holds_drop cut l h i hi =
      get_or-drop cut (put cut (rect_of elements g f) l) i none ∙ get_or_put cut (rect_of elements g f) l i none (omega (arith, rect_length)) h

  -- the record's four elements
  pub elements_of : (l : List E) → Holds l → (x y : ℕ) → Within g x y
      → (get_or l (start_of g x y) none ≡ get_or (elements (f x y)) 0 none) × (get_or l (start_of g x y + 1) none ≡ get_or (elements (f x y)) 1 none)
      × (get_or l (start_of g x y + 2) none ≡ get_or (elements (f x y)) 2 none)
      × (get_or l (start_of g x y + 3) none ≡ get_or (elements (f x y)) 3 none)
  elements_of l k x y i = (
    ap (λ (n : ℕ). get_or l n none) (sym (add-zero (start_of g x y))) ∙ element l k x y i 0 (omega arith),
    element l k x y i 1 (omega arith),
    element l k x y i 2 (omega arith),
    element l k x y i 3 (omega arith),
  )

-- the rectangle spans what lies on the picture within l, r, u, d of (bx, by)
pub record Spans (g : Grid) (w h bx by l r u d : ℕ) : Type 0 where
  pub left : g.x0 ≤ bx - l
  pub right : min (bx + r + 1) w ≤ g.x0 + g.cols
  pub above : g.y0 ≤ by - u
  pub below : min (by + d + 1) h ≤ g.y0 + g.rows

pub spanned : (g : Grid) (w h bx by l r u d : ℕ) → Spans g w h bx by l r u d → (x y : ℕ) → In w h bx by l r u d x y → Within g x y
spanned g w h bx by l r u d s x y i = record { left = omega arith; right = omega arith; above = omega arith; below = omega arith }

module _ (g : Grid) (w h bx by l r u d : ℕ) (s : Spans g w h bx by l r u d) where
  pub metrics_kept : (m : ℕ → ℕ → Metric) (v : List Float) → Holds nan of_metric (λ r. refl) g m v
      → Agree w h bx by l r u d (metric_field g v) m
  unfolding metric_field metric_at
  metrics_kept m v k x y i =
      let e = elements_of nan of_metric (λ r. refl) g m v k x y (spanned g w h bx by l r u d s x y i) in
      rw (e.0, e.1, e.2, e.3)

  pub weights_kept : (m : ℕ → ℕ → Weights) (v : List Float) → Holds nan of_weights (λ r. refl) g m v
      → Agree w h bx by l r u d (weights_field g v) m
  unfolding weights_field weights_at
  weights_kept m v k x y i =
      let e = elements_of nan of_weights (λ r. refl) g m v k x y (spanned g w h bx by l r u d s x y i) in
      rw (e.0, e.1, e.2, e.3)

  pub junctions_kept : (m : ℕ → ℕ → Junctions) (v : List ℕ) → Holds 0 of_junctions (λ r. refl) g m v
      → Agree w h bx by l r u d (junctions_field g v) m
  unfolding junctions_field junctions_at
  junctions_kept m v k x y i =
      let e = elements_of 0 of_junctions (λ r. refl) g m v k x y (spanned g w h bx by l r u d s x y i) in
      rw (e.0, e.1, e.2, e.3)

  pub tags_kept : (m : ℕ → ℕ → Tags) (v : List ℕ) → Holds 0 of_tags (λ r. refl) g m v → Agree w h bx by l r u d (tags_field g v) m
  unfolding tags_field tags_at
  tags_kept m v k x y i =
      let e = elements_of 0 of_tags (λ r. refl) g m v k x y (spanned g w h bx by l r u d s x y i) in
      rw (e.0, e.1, e.2, e.3)
