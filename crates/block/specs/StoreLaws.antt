-- Laws of stored blocks: the output is as long as before, the same blocks leave the same words, a loop adds one more. Assumes nothing.
use Rattle.std.specs.Prelude.{◌≡◌, refl, List, ℕ, zero, suc, ◌+◌, ◌*◌, ◌≤◌, ◌<◌, length}
use Rattle.std.proofs.Common.{sym, ◌∙◌, ap, suc-mul, add-one, arith}
use Rattle.picture.specs.Fill.{put, length_put}
use Rattle.block.specs.Drawn.{third, put_block}
use Rattle.block.specs.Store.{put_row, put_rect}

-- ---- how long the output is

pub block_long : (ow at : ℕ) (b l : List ℕ) → at + 2 * ow + 3 ≤ length l → length (put_block ow at b l) ≡ length l
unfolding put_block
block_long ow at b l room =
    let l₁ = put at (third 0 b) l in
    let l₂ = put (at + ow) (third 1 b) l₁ in
    let n₁ : length l₁ ≡ length l = length_put at (third 0 b) l (omega arith) in
    let n₂ : length l₂ ≡ length l = length_put (at + ow) (third 1 b) l₁ (omega arith) ∙ n₁ in
    length_put (at + 2 * ow) (third 2 b) l₂ (omega arith) ∙ n₂

pub row_long : (ow at : ℕ) (blocks : ℕ → List ℕ) (l : List ℕ) (n : ℕ) → at + 2 * ow + n * 3 ≤ length l
    → length (put_row ow at n blocks l) ≡ length l
unfolding put_row
row_long ow at blocks l zero room = refl
row_long ow at blocks l (suc n) room =
    let ih = row_long ow at blocks l n (omega arith) in
    block_long ow (at + n * 3) (blocks n) (put_row ow at n blocks l) (omega arith) ∙ ih

pub rect_long : (ow at k : ℕ) (blocks : ℕ → ℕ → List ℕ) (l : List ℕ) (n : ℕ) → at + n * (3 * ow) + k * 3 ≤ length l + ow
    → length (put_rect ow at k n blocks l) ≡ length l
unfolding put_rect
rect_long ow at k blocks l zero room = refl
rect_long ow at k blocks l (suc n) room =
    let ih = rect_long ow at k blocks l n (omega (arith, suc-mul n (3 * ow))) in
    row_long ow (at + n * (3 * ow)) (λ i. blocks i n) (put_rect ow at k n blocks l) k (omega (arith, suc-mul n (3 * ow))) ∙ ih

-- ---- blocks that are the same one by one

pub row_same : (ow at n : ℕ) (f g : ℕ → List ℕ) (l : List ℕ) → ((i : ℕ) → i < n → f i ≡ g i) → put_row ow at n f l ≡ put_row ow at n g l
unfolding put_row
row_same ow at zero f g l e = refl
row_same ow at (suc n) f g l e =
    ap (λ (b : List ℕ). put_block ow (at + n * 3) b (put_row ow at n f l)) (e n (omega arith))
    ∙ ap (put_block ow (at + n * 3) (g n)) (row_same ow at n f g l (λ i h. e i (omega arith)))

pub rect_same : (ow at k n : ℕ) (f g : ℕ → ℕ → List ℕ) (l : List ℕ) → ((i j : ℕ) → i < k → j < n → f i j ≡ g i j)
    → put_rect ow at k n f l ≡ put_rect ow at k n g l
unfolding put_rect
rect_same ow at k zero f g l e = refl
rect_same ow at k (suc n) f g l e =
    row_same ow (at + n * (3 * ow)) k (λ i. f i n) (λ i. g i n) (put_rect ow at k n f l) (λ i h. e i n h (omega arith))
    ∙ ap (put_row ow (at + n * (3 * ow)) k (λ i. g i n)) (rect_same ow at k n f g l (λ i j h h'. e i j h (omega arith)))

-- ---- for the loops: the first n blocks of a row, and the first n rows, stand, and the rest is as it was

pub record Rowed (ow at n : ℕ) (blocks : ℕ → List ℕ) (l₀ l : List ℕ) : Type 0 where
  pub is : l ≡ put_row ow at n blocks l₀
  pub long : length l ≡ length l₀

pub rowed_none : (ow at : ℕ) (blocks : ℕ → List ℕ) (l : List ℕ) → Rowed ow at 0 blocks l l
unfolding put_row
rowed_none ow at blocks l = record { is = refl; long = refl }

pub rowed_more : (ow at n : ℕ) (blocks : ℕ → List ℕ) (l₀ l l' b : List ℕ) (o : ℕ) → at + 2 * ow + (n * 3 + 3) ≤ length l₀
    → Rowed ow at n blocks l₀ l → o ≡ at + n * 3 → b ≡ blocks n → l' ≡ put_block ow o b l → Rowed ow at (n + 1) blocks l₀ l'
unfolding put_row
rowed_more ow at n blocks l₀ l l' b o room f eo eb e =
    let z : l' ≡ put_row ow at (suc n) blocks l₀ = e ∙ cc f.is in
    record {
      is = z ∙ ap (λ (m : ℕ). put_row ow at m blocks l₀) (sym (add-one n));
      long = ap length z ∙ row_long ow at blocks l₀ (suc n) (omega arith);
    }

pub rowed_done : (ow at n m : ℕ) (blocks : ℕ → List ℕ) (l₀ l : List ℕ) → Rowed ow at n blocks l₀ l → n ≡ m → l ≡ put_row ow at m blocks l₀
rowed_done ow at n m blocks l₀ l f e = f.is ∙ ap (λ (i : ℕ). put_row ow at i blocks l₀) e

pub record Rected (ow at k n : ℕ) (blocks : ℕ → ℕ → List ℕ) (l₀ l : List ℕ) : Type 0 where
  pub is : l ≡ put_rect ow at k n blocks l₀
  pub long : length l ≡ length l₀

pub rected_none : (ow at k : ℕ) (blocks : ℕ → ℕ → List ℕ) (l : List ℕ) → Rected ow at k 0 blocks l l
unfolding put_rect
rected_none ow at k blocks l = record { is = refl; long = refl }

pub rected_more : (ow at k n : ℕ) (blocks : ℕ → ℕ → List ℕ) (l₀ l l' : List ℕ) (o : ℕ) (row : ℕ → List ℕ)
    → at + (n * (3 * ow) + 3 * ow) + k * 3 ≤ length l₀ + ow → Rected ow at k n blocks l₀ l
    → o ≡ at + n * (3 * ow) → ((i : ℕ) → i < k → row i ≡ blocks i n) → l' ≡ put_row ow o k row l → Rected ow at k (n + 1) blocks l₀ l'
unfolding put_rect
rected_more ow at k n blocks l₀ l l' o row room f eo eb e =
    let z : l' ≡ put_rect ow at k (suc n) blocks l₀ =
    e
    ∙ ap (λ (i : ℕ). put_row ow i k row l) eo
    ∙ row_same ow (at + n * (3 * ow)) k row (λ i. blocks i n) l eb
    ∙ ap (put_row ow (at + n * (3 * ow)) k (λ i. blocks i n)) f.is in
    record {
      is = z ∙ ap (λ (m : ℕ). put_rect ow at k m blocks l₀) (sym (add-one n));
      long = ap length z ∙ rect_long ow at k blocks l₀ (suc n) (omega (arith, suc-mul n (3 * ow)));
    }

pub rected_done : (ow at k n m : ℕ) (blocks : ℕ → ℕ → List ℕ) (l₀ l : List ℕ) → Rected ow at k n blocks l₀ l → n ≡ m
    → l ≡ put_rect ow at k m blocks l₀
rected_done ow at k n m blocks l₀ l f e = f.is ∙ ap (λ (i : ℕ). put_rect ow at k i blocks l₀) e
