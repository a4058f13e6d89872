-- `passes::passes` meets its contract: `Passes` follows the lists from pass to pass. Assumes nothing.
use Rattle.std.proofs.Common.{◌≡◌, ℕ, ◌≤◌, List, ◌++◌, length, take, drop, Float, refl, ap, ◌∙◌, arith}
use Rattle.std.proofs.Math.Path.{sym, ap₂}
use Rattle.std.specs.Float.{nan}
use Rattle.picture.specs.Picture.{words}
use Rattle.picture.specs.Fill.{put}
use Rattle.clarity.specs.declared.Clarity.{Clarity}
use Rattle.metric.specs.Metric.{metrics}
use Rattle.weight.specs.Weight.{weights}
use Rattle.junction.specs.Junction.{junctions}
use Rattle.tag.specs.Tag.{tags}
use Rattle.grid.specs.declared.Grid.{Grid}
use Rattle.grid.specs.Grid.{of_metric, of_weights, of_junctions, of_tags, metric_field, weights_field, junctions_field, rect_of}
use Rattle.grid.specs.Kept.{rect_length}
use Rattle.passes.specs.Window.{Rooms, Passed}
use Rattle.passes.specs.Passes.{passed}
use Rattle.passes.proofs.Halves.{Halves, front, halves}
use Rattle.passes.proofs.passes.Goals as goal

module _ (clarity : Clarity) (w h : ℕ) (f : ℕ → ℕ → ℕ) (g v q t : Grid) (cut from p : ℕ) (s₀ m s m' s' : List Float) (b₀ j r j' r' : List ℕ)
    (rooms : Rooms w h g v q t cut from p (length s₀) (length b₀))
    (em : m ≡ take cut s₀) (es : s ≡ drop cut s₀) (ej : j ≡ take from b₀) (er : r ≡ drop from b₀)
    (e₁ : m' ≡ put 0 (rect_of of_metric g (metrics w h f)) m)
    (e₂ : s' ≡ put 0 (rect_of of_weights v (weights clarity w h (metric_field g m'))) s)
    (e₃ : j' ≡ put 0 (rect_of of_junctions q (junctions w h (metric_field g m') (weights_field v s'))) j)
    (e₄ : r' ≡ put 0 (rect_of of_tags t (tags w h (junctions_field q j'))) r) where
  cut_fits : cut ≤ length s₀
  cut_fits = omega (arith, rooms.weights_room)

  from_fits : from ≤ length b₀
  from_fits = omega (arith, rooms.tags_room)

  -- what a pass makes of the lists that it reads
  weights_from : List Float → List Float
  weights_from a = rect_of of_weights v (weights clarity w h (metric_field g a))

  junctions_from : List Float → List Float → List ℕ
  junctions_from a b = rect_of of_junctions q (junctions w h (metric_field g a) (weights_field v b))

  tags_from : List ℕ → List ℕ
  tags_from a = rect_of of_tags t (tags w h (junctions_field q a))

  ms : List Float
  ms = rect_of of_metric g (metrics w h f)

  ms_room : length ms ≤ cut
  unfolding ms
  ms_room = omega (arith, rect_length nan of_metric (λ r. refl) g (metrics w h f), rooms.metrics_room)

  -- the singles with the metrics, and with the weights of what stands before the cut too
  s₁ : List Float
  s₁ = put 0 ms s₀

  s₂ : List Float
  s₂ = put cut (weights_from (take cut s₁)) s₁

  singles : Halves cut s₂ m' s'
  unfolding ms weights_from s₁ s₂
  singles =
      let first = front cut ms s₀ ms_room cut_fits m m' em e₁ in
      halves cut ms s₀ ms_room cut_fits (weights_from (take cut s₁)) m s m' s' em es e₁
      (e₂ ∙ ap (λ (l : List Float). put 0 (weights_from l) s) first)

  -- the bytes in the same way
  js : List ℕ
  js = junctions_from (take cut s₂) (drop cut s₂)

  js_room : length js ≤ from
  unfolding js junctions_from
  js_room =
      omega (
        arith,
        rect_length 0 of_junctions (λ r. refl) q (junctions w h (metric_field g (take cut s₂)) (weights_field v (drop cut s₂))),
        rooms.junctions_room,
      )

  b₁ : List ℕ
  b₁ = put 0 js b₀

  bytes : Halves from (put from (tags_from (take from b₁)) b₁) j' r'
  unfolding js junctions_from tags_from b₁
  bytes =
      let made : j' ≡ put 0 js j =
      e₃ ∙ ap₂ {C = List ℕ} (λ (a b : List Float). put 0 (junctions_from a b) j) singles.front_is singles.back_is in
      let first = front from js b₀ js_room from_fits j j' ej made in
      halves from js b₀ js_room from_fits (tags_from (take from b₁)) j r j' r' ej er made
      (e₄ ∙ ap (λ (l : List ℕ). put 0 (tags_from l) r) first)

  run : Passed clarity w h f g v q t cut from s₀ (m' ++ s') b₀ (j' ++ r')
  unfolding weights_from junctions_from tags_from ms s₁ s₂ js b₁
  run =
      passed clarity w h f g v q t cut from p s₀ s₁ (m' ++ s') b₀ b₁ (j' ++ r') rooms refl singles.whole_is
      (ap (λ (l : List Float). put 0 (junctions_from (take cut l) (drop cut l)) b₀) (sym singles.whole_is))
      bytes.whole_is

pub returns : goal.returns
returns c =
    let a = c.args in
    let l = c.split_at_mut-m.ensures in
    let b = c.split_at_mut-j.ensures in
    run a.clarity a.picture.w a.picture.h (words a.picture.w a.picture.words.now)
    a.r.metrics a.r.weights a.r.junctions a.r.tags a.cut a.from _ a.singles.now _ _ _ _ a.bytes.now _ _ _ _ c.requires l.front l.back b.front b.back
    c.metrics_rect.ensures c.weights_rect.ensures c.junctions_rect.ensures c.tags_rect.ensures
