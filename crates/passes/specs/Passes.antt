-- Passes over rectangles that hold what the next one reads leave the picture's own records; and the
-- rectangles round a tile are such. Assumes nothing.
use Rattle.std.specs.Prelude.{◌≡◌, refl, Float, take, drop}
use Rattle.std.proofs.Common.{sym, ◌∙◌, mul-le-mul, arith}
use Rattle.std.proofs.Math.Path.{ap}
use mathlib.Core.List.{List}
use Prim.Native.Nat.{ℕ, ◌+◌, ◌-◌, ◌*◌, ◌≤◌, ◌<◌, min}
use Rattle.std.specs.Float.{nan}
use Rattle.std.proofs.Math.ListN.{length}
use Rattle.picture.specs.Local.{In, agreed, narrower}
use Rattle.picture.specs.Fill.{flat_same, put, take_put, length_put}
use Rattle.picture.specs.Pipeline as Pipeline
use Rattle.clarity.specs.declared.Clarity.{Clarity}
use Rattle.clarity.specs.declared.Clarity.TheVariants.{Standard}
use Rattle.metric.specs.declared.Metric.{Metric}
use Rattle.metric.specs.declared.Weights.{Weights}
use Rattle.metric.specs.Metric.{metrics}
use Rattle.weight.specs.Weight.{weights}
use Rattle.junction.specs.declared.Junctions.{Junctions}
use Rattle.junction.specs.Junction.{junctions}
use Rattle.tag.specs.declared.Tags.{Tags}
use Rattle.tag.specs.Tag.{tags}
use Rattle.grid.specs.declared.Grid.{Grid}
use Rattle.grid.specs.Grid.{of_metric, of_weights, of_junctions, of_tags, metric_field}
use Rattle.grid.specs.Grid.{weights_field, junctions_field, tags_field, tags_at, row_of, rect_of}
use Rattle.grid.specs.Room.{Held, Within, Feeds}
use Rattle.grid.specs.Kept.{Holds, Spans, holds_put, holds_take, holds_drop, rect_length}
use Rattle.grid.specs.Kept.{metrics_kept, weights_kept, junctions_kept, tags_kept}
use Rattle.block.specs.Block.{picture_junctions, picture_tags}
use Rattle.block.specs.Locality.{stages}
use Rattle.block.specs.Ring.{tile_of, ring_of}
use Rattle.passes.specs.Window.{Rooms, Passed, Tile, TileTagged, tile_metrics, tile_singles, tile_junctions, tile_bytes}

-- records that are the same on a rectangle
pub rect_same : {R E : Type 0} (elements : R → List E) (g : Grid) (f f' : ℕ → ℕ → R) → ((x y : ℕ) → Within g x y → f x y ≡ f' x y)
    → rect_of elements g f ≡ rect_of elements g f'
unfolding rect_of row_of
rect_same elements g f f' e =
    flat_same g.rows _ _ (λ j hj. flat_same g.cols _ _ (λ i hi.
    ap elements (e (g.x0 + i) (g.y0 + j) (record { left = omega arith; right = omega arith; above = omega arith; below = omega arith }))))

module _ (w h : ℕ) where
  -- a pixel of a rectangle that is fed: what lies round it is held, and it lies on the picture
  fed : {a b : ℕ} {g v : Grid} → Feeds a b g w h v → (x y : ℕ) → Within v x y → Spans g w h x y a a b b
  fed k x y i = record { left = omega arith; right = omega arith; above = omega arith; below = omega arith }

  here : {a b : ℕ} {g v : Grid} → Feeds a b g w h v → (x y : ℕ) → Within v x y → In w h x y 0 0 0 0 x y
  here k x y i = record {
    on_x = omega arith;
    on_y = omega arith;
    left = omega arith;
    right = omega arith;
    above = omega arith;
    below = omega arith;
  }

  module _ {g v : Grid} (m : ℕ → ℕ → Metric) (l : List Float) (hm : Holds nan of_metric (λ r. refl) g m l) where
    pub weights_right : (q : Clarity) → Feeds 1 1 g w h v → (x y : ℕ) → Within v x y
        → weights q w h (metric_field g l) x y ≡ weights q w h m x y
    unfolding weights Pipeline.weights stages
    weights_right q k x y i =
        (Pipeline.weights_agree (stages q) {l = 0} {r = 0} {u = 0} {d = 0}
        (agreed (metrics_kept g w h x y 1 1 1 1 (fed k x y i) m l hm))).same x y (here k x y i)

    pub junctions_right : {q : Grid} (n : ℕ → ℕ → Weights) (s : List Float) → Holds nan of_weights (λ r. refl) v n s → Feeds 1 1 g w h q
        → Feeds 1 1 v w h q
        → (x y : ℕ) → Within q x y → junctions w h (metric_field g l) (weights_field v s) x y ≡ junctions w h m n x y
    unfolding junctions Pipeline.junctions stages
    junctions_right n s hn k k' x y i =
        (Pipeline.junctions_agree (stages Standard) {l = 0} {r = 0} {u = 0} {d = 0}
        (agreed (metrics_kept g w h x y 1 1 1 1 (fed k x y i) m l hm))
        (agreed (weights_kept v w h x y 1 1 1 1 (fed k' x y i) n s hn))).same x y (here k x y i)

  pub tags_right : {q t : Grid} (n : ℕ → ℕ → Junctions) (l : List ℕ) → Holds 0 of_junctions (λ r. refl) q n l → Feeds 3 3 q w h t
      → (x y : ℕ) → Within t x y → tags w h (junctions_field q l) x y ≡ tags w h n x y
  unfolding tags Pipeline.tags stages
  tags_right {q} n l hn k x y i =
      let e = agreed (junctions_kept q w h x y 3 3 3 3 (fed k x y i) n l hn) in
      let o = here k x y i in
      Pipeline.tags_agree (stages Standard) o.on_x o.on_y
      (narrower (omega arith) (omega arith) (omega arith) (omega arith) e)
      (narrower (omega arith) (omega arith) (omega arith) (omega arith) e)

-- the passes one after the other
module _ (clarity : Clarity) (w h : ℕ) (f : ℕ → ℕ → ℕ) (g v q t : Grid) (cut from p : ℕ) (s₀ s₁ s₂ : List Float) (b₀ b₁ b₂ : List ℕ)
    (rooms : Rooms w h g v q t cut from p (length s₀) (length b₀))
    (e₁ : s₁ ≡ put 0 (rect_of of_metric g (metrics w h f)) s₀)
    (e₂ : s₂ ≡ put cut (rect_of of_weights v (weights clarity w h (metric_field g (take cut s₁)))) s₁)
    (e₃ : b₁ ≡ put 0 (rect_of of_junctions q (junctions w h (metric_field g (take cut s₂)) (weights_field v (drop cut s₂)))) b₀)
    (e₄ : b₂ ≡ put from (rect_of of_tags t (tags w h (junctions_field q (take from b₁)))) b₁) where
  abbrev m : ℕ → ℕ → Metric
  m = metrics w h f

  abbrev n : ℕ → ℕ → Weights
  n = weights clarity w h (metrics w h f)

  s₁_long : length s₁ ≡ length s₀
  s₁_long =
      ap length e₁ ∙ length_put 0 (rect_of of_metric g m) s₀
      (omega (arith, rooms.metrics_room, rooms.weights_room, rect_length nan of_metric (λ r. refl) g m))

  held_metrics : Holds nan of_metric (λ r. refl) g m (take cut s₁)
  held_metrics = holds_take nan of_metric (λ r. refl) g m cut s₁ rooms.metrics_room (rw e₁ (holds_put nan of_metric (λ r. refl) g m s₀))

  -- the weights are the picture's
  weights_now : s₂ ≡ put cut (rect_of of_weights v n) s₁
  weights_now =
      e₂ ∙ ap (λ (l : List Float). put cut l s₁)
      (rect_same of_weights v _ _ (weights_right w h m (take cut s₁) held_metrics clarity rooms.to_weights))

  front : take cut s₂ ≡ take cut s₁
  front = ap (take cut) weights_now ∙ take_put cut cut (rect_of of_weights v n) s₁ (omega arith) (omega (arith, s₁_long, rooms.weights_room))

  held_weights : Holds nan of_weights (λ r. refl) v n (drop cut s₂)
  held_weights = rw weights_now (holds_drop nan of_weights (λ r. refl) v n cut s₁ (omega (arith, s₁_long, rooms.weights_room)))

  -- and so are the junctions
  junctions_now : b₁ ≡ put 0 (rect_of of_junctions q (picture_junctions clarity w h f)) b₀
  unfolding picture_junctions
  junctions_now =
      e₃ ∙ ap (λ (l : List ℕ). put 0 l b₀)
      (rect_same of_junctions q _ _
      (junctions_right w h m (take cut s₂) (rw front held_metrics) n (drop cut s₂) held_weights rooms.to_junctions
      rooms.over_junctions))

  held_junctions : Holds 0 of_junctions (λ r. refl) q (picture_junctions clarity w h f) (take from b₁)
  held_junctions =
      holds_take 0 of_junctions (λ r. refl) q (picture_junctions clarity w h f) from b₁ rooms.junctions_room
      (rw junctions_now (holds_put 0 of_junctions (λ r. refl) q (picture_junctions clarity w h f) b₀))

  pub passed : Passed clarity w h f g v q t cut from s₀ s₂ b₀ b₂
  unfolding picture_tags
  passed = record {
    singles_are = weights_now ∙ ap (put cut (rect_of of_weights v n)) e₁;
    bytes_are =
        e₄
        ∙ ap (λ (l : List ℕ). put from l b₁)
        (rect_same of_tags t _ _ (tags_right w h (picture_junctions clarity w h f) (take from b₁) held_junctions rooms.to_tags))
        ∙ ap (put from (rect_of of_tags t (picture_tags clarity w h f))) junctions_now;
  }

-- ---- the rectangles round a tile, along one axis first: of k places from x on, those within a hold what lies within c of those within b

pub record Reach (x k w a b c : ℕ) : Type 0 where
  pub inside : x - b + (min (x + k + b) w - (x - b)) ≤ w
  pub before : x - a ≤ x - b - c
  pub after : min (x - b + (min (x + k + b) w - (x - b)) + c) w ≤ x - a + (min (x + k + a) w - (x - a))

end_of : (x k w a : ℕ) → x + k ≤ w → x - a + (min (x + k + a) w - (x - a)) ≡ min (x + k + a) w
end_of x k w a l = omega arith

reach : (x k w a b c : ℕ) → x + k ≤ w → b + c ≤ a → Reach x k w a b c
reach x k w a b c l m = record { inside = omega (arith, eb); before = omega arith; after = rw (eb, end_of x k w a l) (omega arith) }
  where
    eb : x - b + (min (x + k + b) w - (x - b)) ≡ min (x + k + b) w
    eb = end_of x k w b l

module _ {w h x y k r : ℕ} (tile : Tile w h x y k r) where
  abbrev ring : ℕ → Grid
  ring a = ring_of w h x y k r a

  ring_feeds : (a b c : ℕ) → b + c ≤ a → Feeds c c (ring a) w h (ring b)
  ring_feeds a b c l =
      let i = reach x k w a b c tile.along l in
      let j = reach y r h a b c tile.down l in
      record { columns = i.inside; lines = j.inside; left = i.before; right = i.after; above = j.before; below = j.after }

  ring_held : (a n : ℕ) → (12 + a + a) * ((16 + a + a) * 4) ≤ n → Held (ring a) n
  ring_held a n l =
      let c : (ring a).cols * 4 ≤ (16 + a + a) * 4 = omega arith in
      let d : (ring a).rows ≤ 12 + a + a = omega arith in
      omega (arith, mul-le-mul d c)

  tile_held : r * (k * 4) ≤ 16 * 12 * 4
  tile_held =
      let c : k * 4 ≤ 64 = omega arith in
      let d : r ≤ 12 = omega arith in
      omega (arith, mul-le-mul d c)

  pub tile_rooms : (p s b : ℕ) → w * h ≤ p → tile_singles ≤ s → tile_bytes ≤ b
      → Rooms w h (ring 5) (ring 4) (ring 3) (tile_of x y k r) tile_metrics tile_junctions p s b
  tile_rooms p s b hp hs hb = record {
    picture = hp;
    metrics_on = record { columns = omega arith; lines = omega arith };
    to_weights = ring_feeds 5 4 1 (omega arith);
    to_junctions = ring_feeds 5 3 1 (omega arith);
    over_junctions = ring_feeds 4 3 1 (omega arith);
    to_tags = record {
      columns = tile.along;
      lines = tile.down;
      left = omega arith;
      right = omega arith;
      above = omega arith;
      below = omega arith;
    };
    metrics_room = ring_held 5 tile_metrics (omega arith);
    weights_room = omega (arith, ring_held 4 (24 * 20 * 4) (omega arith));
    junctions_room = ring_held 3 tile_junctions (omega arith);
    tags_room = omega (arith, tile_held);
  }

  -- the tags of a tile, read back
  pub tile_tagged : (q : Clarity) (f : ℕ → ℕ → ℕ) (b b' : List ℕ) → tile_bytes ≤ length b
      → b' ≡ put tile_junctions (rect_of of_tags (tile_of x y k r) (picture_tags q w h f))
      (put 0 (rect_of of_junctions (ring 3) (picture_junctions q w h f)) b)
      → TileTagged q w h f x y k r b b'
  unfolding tags_field
  tile_tagged q f b b' hb e = record { is = e; long = ap length e ∙ long_tags ∙ long; each = each }
    where
      t : ℕ → ℕ → Tags
      t = picture_tags q w h f

      l : List ℕ
      l = put 0 (rect_of of_junctions (ring 3) (picture_junctions q w h f)) b

      long : length l ≡ length b
      long = length_put 0 (rect_of of_junctions (ring 3) (picture_junctions q w h f)) b
          (omega (
            arith,
            rect_length 0 of_junctions (λ r. refl) (ring 3) (picture_junctions q w h f),
            ring_held 3 tile_junctions (omega arith),
          ))

      long_tags : length (put tile_junctions (rect_of of_tags (tile_of x y k r) t) l) ≡ length l
      long_tags =
          length_put tile_junctions (rect_of of_tags (tile_of x y k r) t) l
          (omega (arith, rect_length 0 of_tags (λ r. refl) (tile_of x y k r) t, tile_held, long))

      holds : Holds 0 of_tags (λ r. refl) (tile_of x y k r) t (drop tile_junctions b')
      holds = rw e (holds_drop 0 of_tags (λ r. refl) (tile_of x y k r) t tile_junctions l (omega (arith, long)))

      each : (i j : ℕ) → i < k → j < r → tags_at (drop tile_junctions b') ((j * k + i) * 4) ≡ t (x + i) (y + j)
      each i j hi hj =
          let ex : x + i - x ≡ i = omega arith in
          let ey : y + j - y ≡ j = omega arith in
          let o : In w h (x + i) (y + j) 0 0 0 0 (x + i) (y + j) =
          record {
            on_x = omega arith;
            on_y = omega arith;
            left = omega arith;
            right = omega arith;
            above = omega arith;
            below = omega arith;
          } in
          let s : Spans (tile_of x y k r) w h (x + i) (y + j) 0 0 0 0 =
          record { left = omega arith; right = omega arith; above = omega arith; below = omega arith } in
          ap (λ (n : ℕ). tags_at (drop tile_junctions b') ((n * k + i) * 4)) (sym ey)
          ∙ ap (λ (n : ℕ). tags_at (drop tile_junctions b') (((y + j - y) * k + n) * 4)) (sym ex)
          ∙ tags_kept (tile_of x y k r) w h (x + i) (y + j) 0 0 0 0 s t (drop tile_junctions b') holds (x + i) (y + j) o
