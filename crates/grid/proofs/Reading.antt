-- What is read at a clamped place is the field's record near the pixel. Assumes nothing.
use mathlib.Core.Path.{◌≡◌, ◌∙◌}
use Prim.Native.Nat.{ℕ}
use lib.IntN.{ℤ}
use Rattle.picture.specs.Picture.{near, moved}

pub near_at : {A : Type 0} {p q : ℕ} {r : A} (f : ℕ → ℕ → A) (w h x y : ℕ) (dx dy : ℤ)
    → p ≡ moved w x dx → q ≡ moved h y dy → r ≡ f p q → r ≡ near w h f x y dx dy
near_at f w h x y dx dy ex ey e = e ∙ rw (ex, ey)
