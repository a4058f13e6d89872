-- Where a block's words lie in the output, s of them making a row: small numbers, and within the output. Assumes nothing.
use mathlib.Core.Path.{◌≡◌, refl, sym, ap, ap₂, subst, ◌∙◌}
use mathlib.Core.List.{List, [], ◌∷◌, ◌++◌, append-nil}
use Prim.Native.Nat.{ℕ, zero, suc, ◌+◌, ◌*◌, ◌/◌, ◌%◌, ◌≤◌, ◌<◌}
use native.Mathlib.Nat.{mul-le-mul, div-lt_iff_lt-mul, mod-lt, zero-div, zero-mod, not-suc-le-zero, le_of_suc-le-suc}
use native.Mathlib.Numerals.{add-one}
use native.Mathlib.Omega.{arith}
use lib.ListN.{length, set, drop, drop_of_length-le}
use Rattle.machine.specs.Lists.{table}
use Rattle.machine.specs.Screen.{place}
use Rattle.machine.proofs.Places.{area, spot, spot_lt}
use Rattle.screens.specs.Screens.{screen_of}
use Rattle.screens.proofs.Screens.{scales}

-- ---- s is what screen n makes of a pixel's side

module _ (n s : ℕ) (e : s ≡ (screen_of n).scale) where
  pub some : 0 < s
  some = subst (λ (k : ℕ). 0 < k) (sym e) (scales n).0

  pub few : s ≤ 9
  few = subst (λ (k : ℕ). k ≤ 9) (sym e) (scales n).1

  -- as many words as x pixels of a picture's side make, and a product of two such
  pub along : (x : ℕ) → x ≤ 2048 → s * x ≤ 18432
  along x l = mul-le-mul few l

  pub square : (x y : ℕ) → x ≤ 2048 → y ≤ 2048 → s * x * (s * y) ≤ 339738624
  square x y l m = mul-le-mul (along x l) (along y m)

  -- a block's first word
  pub first_word : (w bx by : ℕ) → s * by * (s * w) + s * bx ≡ place (screen_of n) w bx by 0
  first_word w bx by =
      let row : s * by ≡ s * by + 0 / s = omega (arith, zero-div s) in
      let column : s * bx ≡ s * bx + 0 % s = omega (arith, zero-mod s) in
      ap₂ (λ (q r : ℕ). q * (s * w) + r) row column ∙ ap (λ (k : ℕ). spot k w bx by 0) e

  -- word k of block (bx, by)
  module _ (w h bx by k : ℕ) (x : bx < w) (y : by < h) (wide : w ≤ 2048) (high : h ≤ 2048) (l : k < (screen_of n).scale * (screen_of n).scale) where
    in_block : k < s * s
    in_block = subst (λ (i : ℕ). k < i * i) (sym e) l

    pub its_row : s * by + k / s ≤ 18441
    its_row = let r : k / s < s = (div-lt_iff_lt-mul some).1 in_block in omega (arith, along by (omega arith), r, few)

    pub its_column : s * bx + k % s ≤ 18441
    its_column = let r : k % s < s = mod-lt k some in omega (arith, along bx (omega arith), r, few)

    pub small : spot s w bx by k ≤ 339738624
    small =
        let most : s * s * (w * h) ≤ 81 * 4194304 = mul-le-mul {n₂ = 81} (mul-le-mul few few) (area w h wide high) in
        omega (arith, spot_lt s w some h bx by k x y in_block, most)

    pub within : spot s w bx by k < (screen_of n).scale * (screen_of n).scale * (w * h)
    within = subst (λ (i : ℕ). spot s w bx by k < i * i * (w * h)) e (spot_lt s w some h bx by k x y in_block)

-- ---- a list that is filled from the front by a table

fill_suc : (n : ℕ) (f : ℕ → ℕ) (d : List ℕ) → n < length d → set (table n f ++ drop n d) n (f n) ≡ table (suc n) f ++ drop (suc n) d
fill_suc n f [] l = absurd (not-suc-le-zero l)
fill_suc zero f (x ∷ d) l = refl
fill_suc (suc n) f (x ∷ d) l = ap {B = List ℕ} (λ t. f 0 ∷ t) (fill_suc n (λ k. f (suc k)) d (le_of_suc-le-suc l))

pub fill_more : (n : ℕ) (f : ℕ → ℕ) (d : List ℕ) → n < length d → set (table n f ++ drop n d) n (f n) ≡ table (n + 1) f ++ drop (n + 1) d
fill_more n f d l = subst (λ (k : ℕ). set (table n f ++ drop n d) n (f n) ≡ table k f ++ drop k d) (sym (add-one n)) (fill_suc n f d l)

-- when it is full, the table is all that is there
pub fill_done : (k n : ℕ) (f : ℕ → ℕ) (d : List ℕ) → k ≡ n → length d ≡ n → table k f ++ drop k d ≡ table n f
fill_done k n f d e l =
    ap (λ (i : ℕ). table i f ++ drop i d) e ∙ ap (λ (r : List ℕ). table n f ++ r) (drop_of_length-le d {i = n} (omega arith)) ∙ append-nil (table n f)
