-- Which screen a number has, and what holds of both. Assumes nothing.
use mathlib.Core.Path.{◌≡◌, ap}
use mathlib.Core.Bool.{Bool, true, false, cond}
use Prim.Native.Nat.{ℕ, ◌<◌, ◌≤◌}
use native.Mathlib.Omega.{arith}
use lib.Dec.{eqb}
use borrow.Author.Tests.{eq-eqb, ne_eqb}
use Rattle.machine.specs.Screen.{Screen, Lawful, block_words}
use Rattle.three.specs.Three.{screen3}
use Rattle.three.proofs.Three.{lawful3}
use Rattle.nine.specs.Nine.{screen9}
use Rattle.nine.proofs.Nine.{lawful9}
use Rattle.screens.specs.Screens.{screen_of}

pub screen_nine : (n : ℕ) → eqb n 9 ≡ true → screen_of n ≡ screen9
screen_nine n e = ap (λ (t : Bool). cond t screen9 screen3) e

pub screen_three : (n : ℕ) → eqb n 9 ≡ false → screen_of n ≡ screen3
screen_three n e = ap (λ (t : Bool). cond t screen9 screen3) e

-- the same by a test of the number itself
pub is_nine : (n : ℕ) → n ≡ 9 → screen_of n ≡ screen9
is_nine n e = screen_nine n (eq-eqb n 9 e)

pub not_nine : (n : ℕ) → (n ≡ 9 → ⊥) → screen_of n ≡ screen3
not_nine n e = screen_three n (ne_eqb n 9 e)

-- what holds of both screens holds of every number's
pub of_both : (P : Screen → Type 0) → P screen9 → P screen3 → (n : ℕ) → P (screen_of n)
of_both P a b n = by_test (eqb n 9)
  where
    by_test : (t : Bool) → P (cond t screen9 screen3)
    by_test true = a
    by_test false = b

pub sides : (n : ℕ) → (screen_of n).side ≤ 2048
sides = of_both (λ S. S.side ≤ 2048) (omega arith) (omega arith)

pub many : (n : ℕ) → block_words (screen_of n) ≤ 81
many = of_both (λ S. block_words S ≤ 81) (omega arith) (omega arith)

-- a block has a row of words, and few
pub scales : (n : ℕ) → (0 < (screen_of n).scale) × ((screen_of n).scale ≤ 9)
scales = of_both (λ S. (0 < S.scale) × (S.scale ≤ 9)) (omega arith, omega arith) (omega arith, omega arith)

-- a side within a screen's limit is within 2,048
pub within : (n : ℕ) {w : ℕ} → w ≤ (screen_of n).side → w ≤ 2048
within n l = omega (arith, sides n, l)

-- demand 3 holds of every number's screen
pub lawful_of_lem : (n : ℕ) → Lawful (screen_of n)
lawful_of_lem = of_both Lawful lawful9 lawful3
