-- Copies of pixels in the output: what a row copied three times over holds, that the blocks before one leave it as it is, and that a block
-- of copies in which the words of its tags are stored is its block. Assumes nothing.
use mathlib.Core.Path.{◌≡◌, refl, sym, ◌∙◌, ap}
use mathlib.Core.List.{List, [], ◌∷◌}
use Prim.Native.Nat.{ℕ, zero, suc, ◌+◌, ◌-◌, ◌*◌, ◌≤◌, ◌<◌}
use native.Mathlib.Omega.{arith}
use lib.IntN.{pos}
use lib.ListN.{length, get_or, drop}
use lib.Seq.{get_or-take, get_or-drop}
use borrow.Rule.Slice.PartMut.{mid_of, mid_len}
use Rattle.picture.specs.Fill.{put, length_put, get_or_put, get_or_off, get_or_flat, flat_same, within}
use Rattle.picture.specs.Picture.{words}
use Rattle.grid.proofs.Moves.{stay}
use Rattle.grid.proofs.Reading.{near_at}
use Rattle.block.specs.Block.{tag_word}
use Rattle.block.specs.Copies.{thrice, thrice_below}
use Rattle.copies.proofs.Runs.{thrice_length}
use Rattle.block.specs.Drawn.{Plain}
use Rattle.block.specs.Store.{put_row, Copied}
use Rattle.block.specs.StoreLaws.{Rowed}
use Rattle.block.specs.Placed.{row_off}

three_same : (c j : ℕ) → j < 3 → get_or (c ∷ c ∷ c ∷ []) j 0 ≡ c
three_same c zero h = refl
three_same c (suc zero) h = refl
three_same c (suc (suc zero)) h = refl
three_same c (suc (suc (suc j))) h = absurd (omega arith)

-- copy j of word i, from b on
copy_at : (b k : ℕ) (c : ℕ → ℕ) (l : List ℕ) (i j p : ℕ) → b ≤ length l → i < k → j < 3 → p ≡ b + (i * 3 + j)
    → get_or (put b (thrice k c) l) p 0 ≡ c i
copy_at b k c l i j p room hi hj e =
    ap (λ (n : ℕ). get_or (put b (thrice k c) l) n 0) e
    ∙ get_or_put b (thrice k c) l (i * 3 + j) 0 (omega (arith, thrice_length k c, within i k j 3 hi hj)) room
    ∙ get_or_flat 3 (λ i. c i ∷ c i ∷ c i ∷ []) (λ i. refl) k i j 0 hi hj
    ∙ three_same (c i) j hj

pub copied : (ow at k : ℕ) (c : ℕ → ℕ) (l : List ℕ) → k * 3 ≤ ow → at + 2 * ow + k * 3 ≤ length l
    → Copied ow at k c (thrice_below ow at (thrice k c) l)
copied ow at k c l few room i hi =
    let s = thrice k c in
    let n = thrice_length k c in
    let l₁ = put at s l in
    let n₁ : length l₁ ≡ length l = length_put at s l (omega arith) in
    let l₂ = put (at + ow) s l₁ in
    let n₂ : length l₂ ≡ length l₁ = length_put (at + ow) s l₁ (omega arith) in
    record {
      top = λ j hj.
          let inside = within i k j 3 hi hj in
          get_or_off (at + 2 * ow) s l₂ (at + i * 3 + j) 0 (omega arith) (λ h. omega arith)
          ∙ get_or_off (at + ow) s l₁ (at + i * 3 + j) 0 (omega arith) (λ h. omega arith)
          ∙ copy_at at k c l i j (at + i * 3 + j) (omega arith) hi hj (omega arith);
      middle = λ j hj.
          let inside = within i k j 3 hi hj in
          get_or_off (at + 2 * ow) s l₂ (at + i * 3 + ow + j) 0 (omega arith) (λ h. omega arith)
          ∙ copy_at (at + ow) k c l₁ i j (at + i * 3 + ow + j) (omega arith) hi hj (omega arith);
      bottom = λ j hj. copy_at (at + 2 * ow) k c l₂ i j (at + i * 3 + 2 * ow + j) (omega arith) hi hj (omega arith);
    }

-- a run of a picture, each of its words three times
pub run_copies : (w x y k : ℕ) (p : List ℕ) → y * w + x + k ≤ length p
    → (let part = mid_of (y * w + x) (y * w + x + k - (y * w + x)) p in thrice (length part) (λ j. get_or part j 0))
    ≡ thrice k (λ j. words w p (x + j) y)
run_copies w x y k p room =
    let i = y * w + x in
    let n : i + k - i ≡ k = omega arith in
    let part = mid_of i (i + k - i) p in
    ap (λ (m : ℕ). thrice m (λ j. get_or part j 0)) (mid_len i (i + k) p room ∙ n)
    ∙ flat_same k _ _ (λ j h.
    let e : i + j ≡ y * w + (x + j) = omega arith in
    ap (λ (a : ℕ). a ∷ a ∷ a ∷ []) (get_or-take (i + k - i) (drop i p) j 0 (omega arith) ∙ get_or-drop i p j 0 ∙ ap (λ (m : ℕ). get_or p m 0) e))

-- ---- a block beside others

-- the blocks before it leave block n as it is
pub plain_kept : (ow at n c : ℕ) (blocks : ℕ → List ℕ) (l : List ℕ) → n * 3 + 3 ≤ ow → at + 2 * ow + n * 3 ≤ length l
    → Plain ow (at + n * 3) c l → Plain ow (at + n * 3) c (put_row ow at n blocks l)
plain_kept ow at n c blocks l few room k = record {
  top = λ j h.
      row_off ow at blocks l (at + n * 3 + j) n room
      (λ m q. record { first = λ z. omega arith; second = λ z. omega arith; third = λ z. omega arith }) ∙ k.top j h;
  middle = λ j h.
      row_off ow at blocks l (at + n * 3 + ow + j) n room
      (λ m q. record { first = λ z. omega arith; second = λ z. omega arith; third = λ z. omega arith }) ∙ k.middle j h;
  bottom = λ j h.
      row_off ow at blocks l (at + n * 3 + 2 * ow + j) n room
      (λ m q. record { first = λ z. omega arith; second = λ z. omega arith; third = λ z. omega arith }) ∙ k.bottom j h;
}

-- ---- the blocks of a row over their copies

-- tag 0 names the pixel itself
pixel_is : (w h : ℕ) (f : ℕ → ℕ → ℕ) (x y : ℕ) → x < w → y < h → f x y ≡ tag_word w h f x y 0
unfolding tag_word
pixel_is w h f x y hx hy = near_at f w h x y (pos 0) (pos 0) (stay w x hx) (stay h y hy) refl

-- while the blocks before it are stored, block i is nine copies of its pixel
pub stands : (w h x y k ow at i o : ℕ) (p l₀ l : List ℕ) (blocks : ℕ → List ℕ) → x + k ≤ w → y < h → k * 3 ≤ ow
    → at + 2 * ow + k * 3 ≤ length l₀ → i < k → o ≡ at + i * 3 → Copied ow at k (λ i. words w p (x + i) y) l₀ → Rowed ow at i blocks l₀ l
    → Plain ow o (tag_word w h (words w p) (x + i) y 0) l
stands w h x y k ow at i o p l₀ l blocks along down apart room hi eo c r =
    rw (eo, r.is, sym (pixel_is w h (words w p) (x + i) y (omega arith) down))
    (plain_kept ow at i (words w p (x + i) y) blocks l₀ (omega arith) (omega arith) (c i hi))
