-- Tags and blocks in a part of a buffer, which begins at some place and ends with it, as those of the whole. Assumes nothing.
use mathlib.Core.Path.{◌≡◌, refl, sym, ◌∙◌, ap}
use mathlib.Core.List.{List, [], ◌++◌, append_assoc, append-nil}
use Prim.Native.Nat.{ℕ, zero, suc, ◌+◌, ◌-◌, ◌*◌, ◌≤◌, ◌<◌}
use native.Mathlib.Omega.{arith}
use lib.ListN.{length, get_or, take, drop, length-drop, take-append-drop}
use Rattle.std.proofs.Common.{length-take-le, mul-le-mul_right}
use lib.Seq.{get_or-drop, take-append-add, drop-append-add}
use Rattle.std.proofs.lemmas.List.{take_rest, drop_all}
use borrow.Rule.Slice.PartMut.{put_mid, mid_of, post_of}
use Rattle.picture.specs.Fill.{put}
use Rattle.grid.specs.Grid.{tags_at}
use Rattle.block.specs.Drawn.{third, put_block}
use Rattle.block.specs.Store.{put_row, put_rect, RectRoom}

-- the tags that start at element i of the part
pub tags_from : (tags : List ℕ) (from i : ℕ) → tags_at (take (length tags - from) (drop from tags)) i ≡ tags_at tags (from + i)
unfolding tags_at
tags_from tags from i =
    let word : (j k : ℕ) → from + i + j ≡ k → get_or (drop from tags) (i + j) 0 ≡ get_or tags k 0 =
    λ j k e. get_or-drop from tags (i + j) 0 ∙ ap (λ (m : ℕ). get_or tags m 0) (omega (arith, e)) in
    ap (λ (l : List ℕ). tags_at l i) (take_rest tags from)
    ∙ λ s. record {
      t0 = get_or-drop from tags i 0 s;
      t1 = word 1 (from + i + 1) refl s;
      t2 = word 2 (from + i + 2) refl s;
      t3 = word 3 (from + i + 3) refl s;
    }

-- ---- blocks stored after a front p, which stays

module _ (p : List ℕ) where
  put_after : (b : ℕ) (vs m : List ℕ) → p ++ put b vs m ≡ put (length p + b) vs (p ++ m)
  unfolding put
  put_after b vs m =
      let e : length p + b + length vs ≡ length p + (b + length vs) = omega arith in
      sym (ap (λ (q : List ℕ). q ++ (vs ++ drop (length p + b + length vs) (p ++ m))) (take-append-add p m b)
      ∙ ap (λ (i : ℕ). (p ++ take b m) ++ (vs ++ drop i (p ++ m))) e
      ∙ ap (λ (q : List ℕ). (p ++ take b m) ++ (vs ++ q)) (drop-append-add p m (b + length vs))
      ∙ append_assoc p (take b m) (vs ++ drop (b + length vs) m))

  block_after : (ow at : ℕ) (b m : List ℕ) → p ++ put_block ow at b m ≡ put_block ow (length p + at) b (p ++ m)
  unfolding put_block
  block_after ow at b m =
      let n = length p in
      let l₁ = put at (third 0 b) m in
      let l₂ = put (at + ow) (third 1 b) l₁ in
      let e₁ : n + (at + ow) ≡ n + at + ow = omega arith in
      let e₂ : n + (at + 2 * ow) ≡ n + at + 2 * ow = omega arith in
      put_after (at + 2 * ow) (third 2 b) l₂
      ∙ ap (put (n + (at + 2 * ow)) (third 2 b))
      (put_after (at + ow) (third 1 b) l₁ ∙ ap (put (n + (at + ow)) (third 1 b)) (put_after at (third 0 b) m))
      ∙ ap (λ (i : ℕ). put i (third 2 b) (put (n + (at + ow)) (third 1 b) (put (n + at) (third 0 b) (p ++ m)))) e₂
      ∙ ap (λ (i : ℕ). put (n + at + 2 * ow) (third 2 b) (put i (third 1 b) (put (n + at) (third 0 b) (p ++ m)))) e₁

  row_after : (ow at : ℕ) (blocks : ℕ → List ℕ) (m : List ℕ) (k : ℕ)
      → p ++ put_row ow at k blocks m ≡ put_row ow (length p + at) k blocks (p ++ m)
  unfolding put_row
  row_after ow at blocks m zero = refl
  row_after ow at blocks m (suc k) =
      let e : length p + (at + k * 3) ≡ length p + at + k * 3 = omega arith in
      block_after ow (at + k * 3) (blocks k) (put_row ow at k blocks m)
      ∙ ap (λ (i : ℕ). put_block ow i (blocks k) (p ++ put_row ow at k blocks m)) e
      ∙ ap (put_block ow (length p + at + k * 3) (blocks k)) (row_after ow at blocks m k)

  rect_after : (ow at k : ℕ) (blocks : ℕ → ℕ → List ℕ) (m : List ℕ) (r : ℕ)
      → p ++ put_rect ow at k r blocks m ≡ put_rect ow (length p + at) k r blocks (p ++ m)
  unfolding put_rect
  rect_after ow at k blocks m zero = refl
  rect_after ow at k blocks m (suc r) =
      let e : length p + (at + r * (3 * ow)) ≡ length p + at + r * (3 * ow) = omega arith in
      row_after ow (at + r * (3 * ow)) (λ i. blocks i r) (put_rect ow at k r blocks m) k
      ∙ ap (λ (i : ℕ). put_row ow i k (λ i. blocks i r) (p ++ put_rect ow at k r blocks m)) e
      ∙ ap (put_row ow (length p + at + r * (3 * ow)) k (λ i. blocks i r)) (rect_after ow at k blocks m r)

-- ---- blocks stored in the part from the place a on, as they stand in the whole

part_is : (a : ℕ) (l l' : List ℕ) → put_mid a (length l - a) l l' ≡ take a l ++ l'
part_is a l l' =
    let z : post_of a (length l - a) l ≡ [] = drop_all (length l - a) (drop a l) (omega (arith, length-drop a l)) in
    ap (λ (q : List ℕ). take a l ++ (l' ++ q)) z ∙ ap (λ (q : List ℕ). take a l ++ q) (append-nil l')

pub row_from : (ow k a : ℕ) (blocks : ℕ → List ℕ) (l l' : List ℕ) → a ≤ length l → l' ≡ put_row ow 0 k blocks (mid_of a (length l - a) l)
    → put_mid a (length l - a) l l' ≡ put_row ow a k blocks l
row_from ow k a blocks l l' h e =
    let n : length (take a l) + 0 ≡ a = omega (arith, length-take-le a l h) in
    part_is a l l'
    ∙ ap (λ (q : List ℕ). take a l ++ q) (e ∙ ap (put_row ow 0 k blocks) (take_rest l a))
    ∙ row_after (take a l) ow 0 blocks (drop a l) k
    ∙ ap (λ (i : ℕ). put_row ow i k blocks (take a l ++ drop a l)) n
    ∙ ap (put_row ow a k blocks) (take-append-drop a l)

pub rect_from : (ow k r a : ℕ) (blocks : ℕ → ℕ → List ℕ) (l l' : List ℕ) → a ≤ length l
    → l' ≡ put_rect ow 0 k r blocks (mid_of a (length l - a) l) → put_mid a (length l - a) l l' ≡ put_rect ow a k r blocks l
rect_from ow k r a blocks l l' h e =
    let n : length (take a l) + 0 ≡ a = omega (arith, length-take-le a l h) in
    part_is a l l'
    ∙ ap (λ (q : List ℕ). take a l ++ q) (e ∙ ap (put_rect ow 0 k r blocks) (take_rest l a))
    ∙ rect_after (take a l) ow 0 k blocks (drop a l) r
    ∙ ap (λ (i : ℕ). put_rect ow i k r blocks (take a l ++ drop a l)) n
    ∙ ap (put_rect ow a k r blocks) (take-append-drop a l)

-- ---- the room of a rectangle whose tags and output begin at a place of theirs

module _ (w h x y k r from stride p t ow at o : ℕ) (some : 0 < r) (room : RectRoom w h x y k r from stride p t ow at o) where
  one_row : (n : ℕ) → n ≤ r * n
  one_row n = omega (arith, mul-le-mul_right n some)

  pub from_within : from ≤ t
  from_within = omega (arith, room.tags, one_row stride)

  pub at_within : at ≤ o
  at_within = omega (arith, room.words, one_row (3 * ow))

  pub room_from : RectRoom w h x y k r 0 stride (w * h) (t - from) ow 0 (o - at)
  room_from = record {
    along = room.along;
    down = room.down;
    picture = omega arith;
    tags = omega (arith, room.tags, one_row stride);
    apart = room.apart;
    words = omega (arith, room.words, one_row (3 * ow));
    wide = room.wide;
    long = room.long;
  }
