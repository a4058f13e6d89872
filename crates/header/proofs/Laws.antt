-- What the definitions of a lock come to: of width or height 0 it is none, and one that is not refused locks no position outside the
-- picture. Assumes nothing.
use mathlib.Core.Path.{◌≡◌, refl, sym}
use mathlib.Core.Logic.{◌⊎◌, inl, inr}
use mathlib.Core.Bool.{Bool, true, false, ◌&&◌, ◌||◌, true≢false, and-eq-true_iff}
use Prim.Native.Nat.{ℕ, ◌+◌, ◌≤◌, ◌<◌}
use native.Mathlib.Omega.{arith}
use lib.Dec.{ltb, leb}
use borrow.Author.Tests.{ltb-true, ltb-false, leb-true, lt-ltb}
use Rattle.picture.proofs.Bools.{or_none}
use Rattle.header.specs.declared.Rectangle.{Rectangle}
use Rattle.header.specs.Header.{locked, past}
use Rattle.header.specs.Claims.{LockLaws}

-- a test that leads to nothing does not hold
no : (b : Bool) → (b ≡ true → ⊥) → b ≡ false
no true e = absurd (e refl)
no false e = refl

then_not : (a b : Bool) → (a && b) ≡ false → a ≡ true → b ≡ false
then_not true b e f = e
then_not false b e f = absurd (true≢false (sym f))

module _ (r : Rectangle) where
  in_lock : (column row : ℕ) → locked r column row ≡ true
      → (r.left ≤ column) × (column < r.left + r.width) × (r.top ≤ row) × (row < r.top + r.height)
  unfolding locked
  in_lock column row e =
      let both = (and-eq-true_iff (leb r.left column && ltb column (r.left + r.width)) (leb r.top row && ltb row (r.top + r.height))).0 e in
      let x = (and-eq-true_iff (leb r.left column) (ltb column (r.left + r.width))).0 both.0 in
      let y = (and-eq-true_iff (leb r.top row) (ltb row (r.top + r.height))).0 both.1 in (
        leb-true r.left column x.0,
        ltb-true column (r.left + r.width) x.1,
        leb-true r.top row y.0,
        ltb-true row (r.top + r.height) y.1,
      )

  past_picture : (w h : ℕ) → past w h r ≡ true → (0 < r.width) × (0 < r.height)
  unfolding past
  past_picture w h e =
      let both = (and-eq-true_iff (ltb 0 r.width && ltb 0 r.height) (ltb w (r.left + r.width) || ltb h (r.top + r.height))).0 e in
      let area = (and-eq-true_iff (ltb 0 r.width) (ltb 0 r.height)).0 both.0 in
      (ltb-true 0 r.width area.0, ltb-true 0 r.height area.1)

  -- of width or height 0: whatever the other three are, it is not refused and locks nothing
  pub none_locked : (r.width ≡ 0) ⊎ (r.height ≡ 0)
      → ((w h : ℕ) → past w h r ≡ false) × ((column row : ℕ) → locked r column row ≡ false)
  none_locked (inl e) = (
    λ w h. no (past w h r) (λ p. omega (arith, e, (past_picture w h p).0)),
    λ column row. no (locked r column row) (λ p. let i = in_lock column row p in omega (arith, e, i.0, i.1)),
  )
  none_locked (inr e) = (
    λ w h. no (past w h r) (λ p. omega (arith, e, (past_picture w h p).1)),
    λ column row. no (locked r column row) (λ p. let i = in_lock column row p in omega (arith, e, i.2, i.3)),
  )

  -- so 5 and 11 never hold of one paint
  pub locked_inside : (w h column row : ℕ) → past w h r ≡ false → locked r column row ≡ true → (column < w) × (row < h)
  unfolding past
  locked_inside w h column row p e =
      let i = in_lock column row e in
      let wide : ltb 0 r.width ≡ true = lt-ltb 0 r.width (omega (arith, i.0, i.1)) in
      let high : ltb 0 r.height ≡ true = lt-ltb 0 r.height (omega (arith, i.2, i.3)) in
      let area = (and-eq-true_iff (ltb 0 r.width) (ltb 0 r.height)).1 (wide, high) in
      let ends = or_none (ltb w (r.left + r.width)) (ltb h (r.top + r.height))
      (then_not (ltb 0 r.width && ltb 0 r.height) (ltb w (r.left + r.width) || ltb h (r.top + r.height)) p area) in (
        omega (arith, i.1, ltb-false w (r.left + r.width) ends.0),
        omega (arith, i.3, ltb-false h (r.top + r.height) ends.1),
      )

pub lock_laws : LockLaws
lock_laws = record { none_locked = none_locked; locked_inside = locked_inside }
