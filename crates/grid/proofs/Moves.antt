-- A place moved by an offset and clamped, as a difference or a sum that stops at the border. Assumes nothing.
use mathlib.Core.Path.{◌≡◌, refl, ◌∙◌, ap}
use mathlib.Core.Bool.{Bool, true, false, cond}
use Prim.Native.Nat.{ℕ, suc, ◌+◌, ◌-◌, ◌≤◌, ◌<◌, min}
use native.Mathlib.Omega.{arith}
use lib.IntN.{pos, negsuc}
use lib.Dec.{ltb}
use borrow.Author.Tests.{ltb-true, ltb-false}
use Rattle.picture.specs.Picture.{clamp_z, moved}
use Rattle.grid.specs.Places.{Close, Apart}

pub back : (n p k q : ℕ) → p < n → q ≡ p - suc k → q ≡ moved n p (negsuc k)
unfolding moved
back n p k q h e = e ∙ by_test (ltb p (suc k)) refl
  where
    by_test : (t : Bool) → ltb p (suc k) ≡ t → p - suc k ≡ clamp_z n (cond t (negsuc (suc k - suc p)) (pos (p - suc k)))
    by_test true z = omega (arith, ltb-true p (suc k) z)
    by_test false z = omega (arith, ltb-false p (suc k) z)

pub on : (n p k q : ℕ) → q ≡ min (p + k) (n - 1) → q ≡ moved n p (pos k)
unfolding moved
on n p k q e = e

pub back_close : (a n p k q : ℕ) → p < n → k ≤ a → q ≡ p - k → Close a n p q
back_close a n p k q h l e = record { low = omega arith; high = omega arith; inside = omega arith }

pub on_close : (a n p k q : ℕ) → p < n → k ≤ a → q ≡ min (p + k) (n - 1) → Close a n p q
on_close a n p k q h l e = record { low = omega arith; high = omega arith; inside = omega arith }

pub stay : (n p : ℕ) → p < n → p ≡ moved n p (pos 0)
unfolding moved
stay n p h = omega arith

pub stay_close : (n p : ℕ) → p < n → Close 0 n p p
stay_close n p h = record { low = omega arith; high = omega arith; inside = h }

-- the places d before and d after p
pub apart : (d n p b a : ℕ) → p < n → b ≡ p - d → a ≡ min (p + d) (n - 1) → Apart d n p record { before = b; at = p; after = a }
apart d n p b a h eb ea = record {
  before_is = λ k e. back n p k b h (eb ∙ ap (λ z. p - z) e);
  at_is = stay n p h;
  after_is = on n p d a ea;
  before_in = back_close d n p d b h (omega arith) eb;
  at_in = stay_close n p h;
  after_in = on_close d n p d a h (omega arith) ea;
}
