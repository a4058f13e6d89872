-- A block's nine words, in three rows of three: where they lie, and stored. Assumes nothing.
use mathlib.Core.Path.{◌≡◌, refl, sym, ap, ◌∙◌}
use mathlib.Core.List.{List, [], ◌∷◌}
use Prim.Native.Nat.{ℕ, zero, suc, ◌+◌, ◌*◌, ◌≤◌, ◌<◌}
use native.Mathlib.Nat.{add-mul}
use native.Mathlib.Omega.{arith}
use lib.ListN.{length, get_or, set}
use Rattle.picture.specs.Fill.{put, length_put, stored3}
use Rattle.block.specs.Drawn.{third}
use Rattle.block.specs.Drawn as store
use Rattle.machine.specs.Lists.{table}
use Rattle.machine.specs.Screen.{place}
use Rattle.machine.specs.Machine.{put_words}
use Rattle.machine.proofs.Places.{spot_lt}
use Rattle.three.specs.Three.{screen3}

-- word c of row r lies c words after the row's first, and that r output rows after the block's first
spot : (w bx by r c b : ℕ) → b ≡ place screen3 w bx by 0 + r * (3 * w) → b + c ≡ (3 * by + r) * (3 * w) + (3 * bx + c)
spot w bx by r c b e = omega (arith, e, add-mul (3 * by) r (3 * w), add-mul (3 * by) 0 (3 * w))

spot_first : (w bx by r b : ℕ) → b ≡ place screen3 w bx by 0 + r * (3 * w) → b ≡ (3 * by + r) * (3 * w) + (3 * bx + 0)
spot_first w bx by r b e = omega (arith, spot w bx by r 0 b e)

-- the block's last word lies within the output
room : (w h bx by : ℕ) → bx < w → by < h → place screen3 w bx by 0 + 2 * (3 * w) + 3 ≤ 9 * (w * h)
room w h bx by x y =
    omega (arith, spot_lt 3 w (omega arith) h bx by 8 x y (omega arith), spot w bx by 2 2 (place screen3 w bx by 0 + 2 * (3 * w)) refl)

table_of : (n : ℕ) (ws : List ℕ) → length ws ≡ n → ws ≡ table n (λ k. get_or ws k 0)
table_of zero [] e = refl
table_of zero (x ∷ ws) e = absurd (omega arith)
table_of (suc n) [] e = absurd (omega arith)
table_of (suc n) (x ∷ ws) e = ap {B = List ℕ} (λ l. x ∷ l) (table_of n ws (omega arith))

-- a, b and c: where the block's three rows start
module _ (w h bx by a b c : ℕ) (ea : a ≡ place screen3 w bx by 0 + 0 * (3 * w)) (eb : b ≡ place screen3 w bx by 0 + 1 * (3 * w))
    (ec : c ≡ place screen3 w bx by 0 + 2 * (3 * w)) where
  abbrev row : ℕ → ℕ → List ℕ → List ℕ → List ℕ
  row k i ws out = set (set (set out i (get_or ws k 0)) (i + 1) (get_or ws (k + 1) 0)) (i + 2) (get_or ws (k + 2) 0)

  stored : (ws out : List ℕ) → length ws ≡ 9 → row 6 c ws (row 3 b ws (row 0 a ws out)) ≡ put_words screen3 w h bx by 0 ws out
  stored ws out l =
      (λ i. set (set (set (set (set (set (set (set (set out (spot_first w bx by 0 a ea i) (get_or ws 0 0)) (spot w bx by 0 1 a ea i) (get_or ws 1 0))
      (spot w bx by 0 2 a ea i) (get_or ws 2 0)) (spot_first w bx by 1 b eb i) (get_or ws 3 0)) (spot w bx by 1 1 b eb i) (get_or ws 4 0))
      (spot w bx by 1 2 b eb i) (get_or ws 5 0)) (spot_first w bx by 2 c ec i) (get_or ws 6 0)) (spot w bx by 2 1 c ec i) (get_or ws 7 0))
      (spot w bx by 2 2 c ec i) (get_or ws 8 0))
      ∙ ap (λ (l : List ℕ). put_words screen3 w h bx by 0 l out) (sym (table_of 9 ws l))

-- a block's three rows stored are its nine words put one by one
pub block_put : (w h bx by : ℕ) (ws out : List ℕ) → length ws ≡ 9 → bx < w → by < h → 9 * (w * h) ≤ length out
    → store.put_block (3 * w) (place screen3 w bx by 0) ws out ≡ put_words screen3 w h bx by 0 ws out
unfolding store.put_block
block_put w h bx by ws out l x y n =
    let at : ℕ = place screen3 w bx by 0 in
    let last = room w h bx by x y in
    let o₁ : List ℕ = put at (third 0 ws) out in
    let n₁ : length o₁ ≡ length out = length_put at (third 0 ws) out (omega arith) in
    let o₂ : List ℕ = put (at + 3 * w) (third 1 ws) o₁ in
    let n₂ : length o₂ ≡ length o₁ = length_put (at + 3 * w) (third 1 ws) o₁ (omega arith) in
    sym (stored3 o₂ (at + 2 * (3 * w)) (get_or ws 6 0) (get_or ws 7 0) (get_or ws 8 0) (omega arith))
    ∙ ap (row w h bx by at (at + 3 * w) (at + 2 * (3 * w)) (omega arith) (omega arith) (omega arith) 6 (at + 2 * (3 * w)) ws)
    (sym (stored3 o₁ (at + 3 * w) (get_or ws 3 0) (get_or ws 4 0) (get_or ws 5 0) (omega arith))
    ∙ ap (row w h bx by at (at + 3 * w) (at + 2 * (3 * w)) (omega arith) (omega arith) (omega arith) 3 (at + 3 * w) ws)
    (sym (stored3 out at (get_or ws 0 0) (get_or ws 1 0) (get_or ws 2 0) (omega arith))))
    ∙ stored w h bx by at (at + 3 * w) (at + 2 * (3 * w)) (omega arith) (omega arith) (omega arith) ws out l
