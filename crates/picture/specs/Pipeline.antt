-- The five stages as local functions of fields, over any stage functions, and what a block depends on, in one picture or in a window of
-- it. Assumes nothing.
use Rattle.std.specs.Prelude.{◌≡◌, ℕ, ◌+◌, ◌<◌, ℤ, pos, negsuc, T}
use Rattle.std.proofs.Common.{◌∙◌, arith}
use Rattle.std.proofs.Math.Path.{ap}
use Rattle.picture.specs.Picture.{near}
use Rattle.picture.specs.Local.{Match, here, reaches, near_agrees, narrower, stage}

-- the stage functions, of what each reads
pub record Stages (P M W J G : Type 0) : Type 0 where
  -- the pixel, top-left, top, top-right, right
  pub metric_of : P → P → P → P → P → M
  -- tl t l c r bl b br
  pub weights_of : M → M → M → M → M → M → M → M → W
  -- metrics as above; weights tl t tr l c r bl b br
  pub junctions_of : M → M → M → M → M → M → M → M → W → W → W → W → W → W → W → W → W → J
  -- the centre, left 1 2 3, right 1 2 3, up 1 2 3, down 1 2 3
  pub tags_of : J → J → J → J → J → J → J → J → J → J → J → J → J → G
  -- the offset that the tags give word k of the block
  pub off_x : G → ℕ → ℤ
  pub off_y : G → ℕ → ℤ

module _ {P M W J G : Type 0} (s : Stages P M W J G) (w h : ℕ) where
  unfoldable pub metrics : (ℕ → ℕ → P) → ℕ → ℕ → M
  metrics f x y =
      let at = near w h f x y in
      s.metric_of (at (pos 0) (pos 0)) (at (negsuc 0) (negsuc 0)) (at (pos 0) (negsuc 0)) (at (pos 1) (negsuc 0)) (at (pos 1) (pos 0))

  unfoldable pub weights : (ℕ → ℕ → M) → ℕ → ℕ → W
  weights m x y =
      let at = near w h m x y in
      s.weights_of (at (negsuc 0) (negsuc 0)) (at (pos 0) (negsuc 0)) (at (negsuc 0) (pos 0)) (at (pos 0) (pos 0)) (at (pos 1) (pos 0))
      (at (negsuc 0) (pos 1)) (at (pos 0) (pos 1)) (at (pos 1) (pos 1))

  unfoldable pub junctions : (ℕ → ℕ → M) → (ℕ → ℕ → W) → ℕ → ℕ → J
  junctions m v x y =
      let at = near w h m x y in
      let on = near w h v x y in
      s.junctions_of (at (negsuc 0) (negsuc 0)) (at (pos 0) (negsuc 0)) (at (negsuc 0) (pos 0)) (at (pos 0) (pos 0)) (at (pos 1) (pos 0))
      (at (negsuc 0) (pos 1)) (at (pos 0) (pos 1)) (at (pos 1) (pos 1))
      (on (negsuc 0) (negsuc 0)) (on (pos 0) (negsuc 0)) (on (pos 1) (negsuc 0)) (on (negsuc 0) (pos 0)) (on (pos 0) (pos 0))
      (on (pos 1) (pos 0))
      (on (negsuc 0) (pos 1)) (on (pos 0) (pos 1)) (on (pos 1) (pos 1))

  unfoldable pub tags : (ℕ → ℕ → J) → ℕ → ℕ → G
  tags j x y =
      let at = near w h j x y in
      s.tags_of (at (pos 0) (pos 0))
      (at (negsuc 0) (pos 0)) (at (negsuc 1) (pos 0)) (at (negsuc 2) (pos 0))
      (at (pos 1) (pos 0)) (at (pos 2) (pos 0)) (at (pos 3) (pos 0))
      (at (pos 0) (negsuc 0)) (at (pos 0) (negsuc 1)) (at (pos 0) (negsuc 2))
      (at (pos 0) (pos 1)) (at (pos 0) (pos 2)) (at (pos 0) (pos 3))

  -- the fields of a picture
  abbrev pub all_metrics : (ℕ → ℕ → P) → ℕ → ℕ → M
  all_metrics f = metrics f

  abbrev pub all_weights : (ℕ → ℕ → P) → ℕ → ℕ → W
  all_weights f = weights (all_metrics f)

  abbrev pub all_junctions : (ℕ → ℕ → P) → ℕ → ℕ → J
  all_junctions f = junctions (all_metrics f) (all_weights f)

  abbrev pub all_tags : (ℕ → ℕ → P) → ℕ → ℕ → G
  all_tags f = tags (all_junctions f)

  -- word k of the block of (x, y)
  unfoldable pub block_word : (ℕ → ℕ → P) → ℕ → ℕ → ℕ → P
  block_word f x y k = let t = all_tags f x y in near w h f x y (s.off_x t k) (s.off_y t k)

-- ---- what each stage depends on: fields of a picture of w by h and of one of cols by rows that agree around (bx, by)

module _ {P M W J G : Type 0} (s : Stages P M W J G) {w h cols rows : ℕ} {to_x to_y : ℕ → ℕ} {bx by : ℕ} where
  pub metrics_agree : {l r u d : ℕ} {f g : ℕ → ℕ → P} → Match w h cols rows to_x to_y bx by (l + 1) (r + 1) (u + 1) (d + 0) f g
      → Match w h cols rows to_x to_y bx by l r u d (metrics s w h f) (metrics s cols rows g)
  unfolding metrics
  metrics_agree e =
      stage 1 1 1 0 e (λ x y i n.
      cc (n (pos 0) (pos 0) tt, n (negsuc 0) (negsuc 0) tt, n (pos 0) (negsuc 0) tt, n (pos 1) (negsuc 0) tt, n (pos 1) (pos 0) tt))

  pub weights_agree : {l r u d : ℕ} {f g : ℕ → ℕ → M} → Match w h cols rows to_x to_y bx by (l + 1) (r + 1) (u + 1) (d + 1) f g
      → Match w h cols rows to_x to_y bx by l r u d (weights s w h f) (weights s cols rows g)
  unfolding weights
  weights_agree e =
      stage 1 1 1 1 e (λ x y i n.
      cc (
        n (negsuc 0) (negsuc 0) tt,
        n (pos 0) (negsuc 0) tt,
        n (negsuc 0) (pos 0) tt,
        n (pos 0) (pos 0) tt,
        n (pos 1) (pos 0) tt,
        n (negsuc 0) (pos 1) tt,
        n (pos 0) (pos 1) tt,
        n (pos 1) (pos 1) tt,
      ))

  pub junctions_agree : {l r u d : ℕ} {f g : ℕ → ℕ → M} {f' g' : ℕ → ℕ → W}
      → Match w h cols rows to_x to_y bx by (l + 1) (r + 1) (u + 1) (d + 1) f g
      → Match w h cols rows to_x to_y bx by (l + 1) (r + 1) (u + 1) (d + 1) f' g'
      → Match w h cols rows to_x to_y bx by l r u d (junctions s w h f f') (junctions s cols rows g g')
  unfolding junctions
  junctions_agree e e' =
      stage 1 1 1 1 e (λ x y i n.
      let v = near_agrees 1 1 1 1 e' x y i in
      cc (
        n (negsuc 0) (negsuc 0) tt,
        n (pos 0) (negsuc 0) tt,
        n (negsuc 0) (pos 0) tt,
        n (pos 0) (pos 0) tt,
        n (pos 1) (pos 0) tt,
        n (negsuc 0) (pos 1) tt,
        n (pos 0) (pos 1) tt,
        n (pos 1) (pos 1) tt,
        v (negsuc 0) (negsuc 0) tt,
        v (pos 0) (negsuc 0) tt,
        v (pos 1) (negsuc 0) tt,
        v (negsuc 0) (pos 0) tt,
        v (pos 0) (pos 0) tt,
        v (pos 1) (pos 0) tt,
        v (negsuc 0) (pos 1) tt,
        v (pos 0) (pos 1) tt,
        v (pos 1) (pos 1) tt,
      ))

  -- a junction depends on the pixels at most three away, and two below
  pub of_picture : {l r u d : ℕ} {f g : ℕ → ℕ → P} → Match w h cols rows to_x to_y bx by (l + 3) (r + 3) (u + 3) (d + 2) f g
      → Match w h cols rows to_x to_y bx by l r u d (all_junctions s w h f) (all_junctions s cols rows g)
  of_picture {l} {r} {u} {d} {f} {g} e =
      let m : Match w h cols rows to_x to_y bx by (l + 1 + 1) (r + 1 + 1) (u + 1 + 1) (d + 1 + 1) (metrics s w h f) (metrics s cols rows g) =
      metrics_agree (narrower (omega arith) (omega arith) (omega arith) (omega arith) e) in
      junctions_agree (narrower (omega arith) (omega arith) (omega arith) (omega arith) m) (weights_agree m)

  module _ (hx : bx < w) (hy : by < h) where
    -- a tag depends on the junctions of its row, three to each side, and of its column
    pub tags_agree : {f g : ℕ → ℕ → J} → Match w h cols rows to_x to_y bx by (0 + 3) (0 + 3) 0 0 f g
        → Match w h cols rows to_x to_y bx by 0 0 (0 + 3) (0 + 3) f g
        → tags s w h f bx by ≡ tags s cols rows g (to_x bx) (to_y by)
    unfolding tags
    tags_agree e e' =
        let n = near_agrees 3 3 0 0 (narrower (omega arith) (omega arith) (omega arith) (omega arith) e) bx by (here hx hy) in
        let v = near_agrees 0 0 3 3 (narrower (omega arith) (omega arith) (omega arith) (omega arith) e') bx by (here hx hy) in
        cc (
          n (pos 0) (pos 0) tt,
          n (negsuc 0) (pos 0) tt,
          n (negsuc 1) (pos 0) tt,
          n (negsuc 2) (pos 0) tt,
          n (pos 1) (pos 0) tt,
          n (pos 2) (pos 0) tt,
          n (pos 3) (pos 0) tt,
          v (pos 0) (negsuc 0) tt,
          v (pos 0) (negsuc 1) tt,
          v (pos 0) (negsuc 2) tt,
          v (pos 0) (pos 1) tt,
          v (pos 0) (pos 2) tt,
          v (pos 0) (pos 3) tt,
        )

    -- a block depends on a cross: three rows up and two down along six columns to each side, and six up and five down along three
    pub cross : ((t : G) (k : ℕ) → T (reaches 2 2 2 2 (s.off_x t k) (s.off_y t k))) → {f g : ℕ → ℕ → P}
        → Match w h cols rows to_x to_y bx by 6 6 3 2 f g → Match w h cols rows to_x to_y bx by 3 3 6 5 f g
        → (k : ℕ) → block_word s w h f bx by k ≡ block_word s cols rows g (to_x bx) (to_y by) k
    unfolding block_word
    cross reach {f} {g} e e' k =
        let tags_same : all_tags s w h f bx by ≡ all_tags s cols rows g (to_x bx) (to_y by) = tags_agree (of_picture e) (of_picture e') in
        let t = all_tags s cols rows g (to_x bx) (to_y by) in
        ap (λ (q : G). near w h f bx by (s.off_x q k) (s.off_y q k)) tags_same
        ∙ near_agrees 2 2 2 2 (narrower (omega arith) (omega arith) (omega arith) (omega arith) e) bx by (here hx hy) (s.off_x t k) (s.off_y t k)
        (reach t k)
