-- Blocks stored side by side are the three strips of words that their rows are, and cover whatever strips as long stood there. Assumes
-- nothing.
use Rattle.std.specs.Prelude.{◌≡◌, refl, length}
use Rattle.std.proofs.Math.Path.{sym, ap}
use Rattle.std.proofs.Common.{◌∙◌}
use mathlib.Core.List.{List, []}
use Prim.Native.Nat.{ℕ, zero, suc, ◌+◌, ◌*◌, ◌≤◌}
use Rattle.std.proofs.Math.Nat.{suc-mul}
use native.Mathlib.Omega.{arith}
use Rattle.picture.specs.Fill.{flat, put, put_put, put_comm, put_again, put_nil, length_put, length_flat}
use Rattle.block.specs.Copies.{thrice_below}
use Rattle.block.specs.Drawn.{third, put_block}
use Rattle.block.specs.Store.{put_row}

-- row r of the first n blocks
abbrev pub strip : (ℕ → List ℕ) → ℕ → ℕ → List ℕ
strip blocks r n = flat n (λ x. third r (blocks x))

pub strip_length : (blocks : ℕ → List ℕ) (r n : ℕ) → length (strip blocks r n) ≡ n * 3
strip_length blocks r n = length_flat 3 (λ x. third r (blocks x)) (λ x. refl) n

module _ (ow at : ℕ) (blocks : ℕ → List ℕ) (l₀ : List ℕ) where
  module _ (n : ℕ) (more : n * 3 + 3 ≤ ow) (room : at + 2 * ow + (n * 3 + 3) ≤ length l₀) where
    y₁ : List ℕ
    y₁ = put at (strip blocks 0 n) l₀

    y₁_long : length y₁ ≡ length l₀
    unfolding y₁
    y₁_long = length_put at (strip blocks 0 n) l₀ (omega (arith, strip_length blocks 0 n))

    -- the next piece of the first strip goes below the other two
    first : put (at + n * 3) (third 0 (blocks n)) (put (at + 2 * ow) (strip blocks 2 n) (put (at + ow) (strip blocks 1 n) y₁))
        ≡ put (at + 2 * ow) (strip blocks 2 n) (put (at + ow) (strip blocks 1 n) (put at (strip blocks 0 (suc n)) l₀))
    unfolding y₁
    first =
        let e0 = strip_length blocks 0 n in
        let e1 = strip_length blocks 1 n in
        let e2 = strip_length blocks 2 n in
        let m = y₁_long in
        let k = length_put (at + ow) (strip blocks 1 n) y₁ (omega arith) in
        put_comm (at + n * 3) (at + 2 * ow) (third 0 (blocks n)) (strip blocks 2 n) (put (at + ow) (strip blocks 1 n) y₁) (omega arith) (omega arith)
        ∙ ap (put (at + 2 * ow) (strip blocks 2 n))
        (put_comm (at + n * 3) (at + ow) (third 0 (blocks n)) (strip blocks 1 n) y₁ (omega arith) (omega arith))
        ∙ ap (λ (i : ℕ). put (at + 2 * ow) (strip blocks 2 n) (put (at + ow) (strip blocks 1 n) (put (at + i) (third 0 (blocks n)) y₁))) (sym e0)
        ∙ ap (λ (l : List ℕ). put (at + 2 * ow) (strip blocks 2 n) (put (at + ow) (strip blocks 1 n) l))
        (put_put at (strip blocks 0 n) (third 0 (blocks n)) l₀ (omega arith))

    y₂ : List ℕ
    y₂ = put at (strip blocks 0 (suc n)) l₀

    y₂_long : length y₂ ≡ length l₀
    unfolding y₂
    y₂_long = length_put at (strip blocks 0 (suc n)) l₀ (omega (arith, strip_length blocks 0 (suc n), suc-mul n 3))

    second : put (at + ow + n * 3) (third 1 (blocks n)) (put (at + 2 * ow) (strip blocks 2 n) (put (at + ow) (strip blocks 1 n) y₂))
        ≡ put (at + 2 * ow) (strip blocks 2 n) (put (at + ow) (strip blocks 1 (suc n)) y₂)
    second =
        let e1 = strip_length blocks 1 n in
        let e2 = strip_length blocks 2 n in
        let m = y₂_long in
        let k = length_put (at + ow) (strip blocks 1 n) y₂ (omega arith) in
        put_comm (at + ow + n * 3) (at + 2 * ow) (third 1 (blocks n)) (strip blocks 2 n) (put (at + ow) (strip blocks 1 n) y₂) (omega arith) (omega arith)
        ∙ ap (λ (i : ℕ). put (at + 2 * ow) (strip blocks 2 n) (put (at + ow + i) (third 1 (blocks n)) (put (at + ow) (strip blocks 1 n) y₂))) (sym e1)
        ∙ ap (put (at + 2 * ow) (strip blocks 2 n)) (put_put (at + ow) (strip blocks 1 n) (third 1 (blocks n)) y₂ (omega arith))

    y₃ : List ℕ
    y₃ = put (at + ow) (strip blocks 1 (suc n)) y₂

    y₃_long : length y₃ ≡ length l₀
    unfolding y₃
    y₃_long = length_put (at + ow) (strip blocks 1 (suc n)) y₂ (omega (arith, strip_length blocks 1 (suc n), suc-mul n 3, y₂_long)) ∙ y₂_long

    third_put : put (at + 2 * ow + n * 3) (third 2 (blocks n)) (put (at + 2 * ow) (strip blocks 2 n) y₃) ≡ put (at + 2 * ow) (strip blocks 2 (suc n)) y₃
    third_put =
        let e2 = strip_length blocks 2 n in
        let m = y₃_long in
        ap (λ (i : ℕ). put (at + 2 * ow + i) (third 2 (blocks n)) (put (at + 2 * ow) (strip blocks 2 n) y₃)) (sym e2)
        ∙ put_put (at + 2 * ow) (strip blocks 2 n) (third 2 (blocks n)) y₃ (omega arith)

    -- one more block
    strips_more : put_block ow (at + n * 3) (blocks n) (put (at + 2 * ow) (strip blocks 2 n) (put (at + ow) (strip blocks 1 n) y₁))
        ≡ put (at + 2 * ow) (strip blocks 2 (suc n)) y₃
    unfolding put_block y₁ y₂ y₃
    strips_more =
        let i1 : at + n * 3 + ow ≡ at + ow + n * 3 = omega arith in
        let i2 : at + n * 3 + 2 * ow ≡ at + 2 * ow + n * 3 = omega arith in
        rw (i2, i1, first, second, third_put)

  pub row_strips : (n : ℕ) → n * 3 ≤ ow → at + 2 * ow + n * 3 ≤ length l₀
      → put_row ow at n blocks l₀ ≡ put (at + 2 * ow) (strip blocks 2 n) (put (at + ow) (strip blocks 1 n) (put at (strip blocks 0 n) l₀))
  unfolding put_row y₁ y₂ y₃
  row_strips zero few room =
      sym (ap (λ (l : List ℕ). put (at + 2 * ow) [] (put (at + ow) [] l)) (put_nil at l₀ (omega arith))
      ∙ ap (λ (l : List ℕ). put (at + 2 * ow) [] l) (put_nil (at + ow) l₀ (omega arith)) ∙ put_nil (at + 2 * ow) l₀ (omega arith))
  row_strips (suc n) few room =
      ap (put_block ow (at + n * 3) (blocks n)) (row_strips n (omega arith) (omega arith)) ∙ strips_more n (omega arith) (omega arith)

-- the words of n pixels that stood there in three rows leave nothing
pub covered : (ow at n : ℕ) (blocks : ℕ → List ℕ) (s l : List ℕ) → length s ≡ n * 3 → n * 3 ≤ ow → at + 2 * ow + n * 3 ≤ length l
    → put_row ow at n blocks (thrice_below ow at s l) ≡ put_row ow at n blocks l
covered ow at n blocks s l e few room =
    let z₁ = put at s l in
    let n₁ : length z₁ ≡ length l = length_put at s l (omega arith) in
    let z₂ = put (at + ow) s z₁ in
    let n₂ : length z₂ ≡ length z₁ = length_put (at + ow) s z₁ (omega arith) in
    let z₃ = put (at + 2 * ow) s z₂ in
    let n₃ : length z₃ ≡ length z₂ = length_put (at + 2 * ow) s z₂ (omega arith) in
    let a = strip blocks 0 n in
    let b = strip blocks 1 n in
    let c = strip blocks 2 n in
    let ea = strip_length blocks 0 n in
    let eb = strip_length blocks 1 n in
    let ec = strip_length blocks 2 n in
    let x = put at a l in
    let nx : length x ≡ length l = length_put at a l (omega arith) in
    let first : put at a z₃ ≡ put (at + 2 * ow) s (put (at + ow) s x) =
    put_comm at (at + 2 * ow) a s z₂ (omega arith) (omega arith)
    ∙ ap (put (at + 2 * ow) s)
    (put_comm at (at + ow) a s z₁ (omega arith) (omega arith) ∙ ap (put (at + ow) s) (put_again at a s l (ea ∙ sym e) (omega arith))) in
    let y = put (at + ow) b x in
    let ny : length y ≡ length x = length_put (at + ow) b x (omega arith) in
    let nz : length (put (at + ow) s x) ≡ length x = length_put (at + ow) s x (omega arith) in
    let second : put (at + ow) b (put (at + 2 * ow) s (put (at + ow) s x)) ≡ put (at + 2 * ow) s y =
    put_comm (at + ow) (at + 2 * ow) b s (put (at + ow) s x) (omega arith) (omega arith)
    ∙ ap (put (at + 2 * ow) s) (put_again (at + ow) b s x (eb ∙ sym e) (omega arith)) in
    row_strips ow at blocks z₃ n few (omega arith)
    ∙ ap (λ (m : List ℕ). put (at + 2 * ow) c (put (at + ow) b m)) first
    ∙ ap (put (at + 2 * ow) c) second
    ∙ put_again (at + 2 * ow) c s y (ec ∙ sym e) (omega arith)
    ∙ sym (row_strips ow at blocks l n few room)
