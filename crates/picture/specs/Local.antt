-- Locality: what a stage of local functions depends on. Two fields that agree on a rectangle around (bx, by) give
-- records that agree on the rectangle less what the stage reads. The fields may be of two pictures, one of them a window of the other, with
-- its own sides and its own places. Assumes nothing.
use Rattle.std.specs.Prelude.{◌≡◌, refl, Bool, true, false, cond, ◌&&◌, ℕ, suc, ◌+◌, ◌-◌, ◌≤◌, ◌<◌, ℤ, pos, negsuc, T, leb, ltb}
use Rattle.std.proofs.Common.{◌∙◌, ap₂, arith, leb→le, ltb-true, ltb-false}
use Rattle.picture.specs.Picture.{clamp_z, moved, near}

-- how far an offset reaches down, and up
abbrev pub back : ℤ → ℕ
back (pos k) = 0
back (negsuc k) = suc k

abbrev pub ahead : ℤ → ℕ
ahead (pos k) = k
ahead (negsuc k) = 0

-- a place moved and clamped stays on the axis, within the offset's reach
pub record Near (n p : ℕ) (d : ℤ) (q : ℕ) : Type 0 where
  pub low : p ≤ q + back d
  pub high : q ≤ p + ahead d
  pub inside : q < n

pub moved_near : (n p : ℕ) (d : ℤ) → p < n → Near n p d (moved n p d)
unfolding moved
moved_near n p (pos k) h = record { low = omega arith; high = omega arith; inside = omega arith }
moved_near n p (negsuc k) h = by_test (ltb p (suc k)) refl
  where
    by_test : (t : Bool) → ltb p (suc k) ≡ t → Near n p (negsuc k) (clamp_z n (cond t (negsuc (suc k - suc p)) (pos (p - suc k))))
    by_test true e = let l = ltb-true p (suc k) e in record { low = omega arith; high = omega arith; inside = omega arith }
    by_test false e = let l = ltb-false p (suc k) e in record { low = omega arith; high = omega arith; inside = omega arith }

-- (x, y) is on the picture, at most l left, r right, u above and d below (bx, by)
pub record In (w h bx by l r u d x y : ℕ) : Type 0 where
  pub on_x : x < w
  pub on_y : y < h
  pub left : bx ≤ x + l
  pub right : x ≤ bx + r
  pub above : by ≤ y + u
  pub below : y ≤ by + d

-- a place of the picture is there itself
pub here : {w h x y : ℕ} → x < w → y < h → In w h x y 0 0 0 0 x y
here hx hy = record { on_x = hx; on_y = hy; left = omega arith; right = omega arith; above = omega arith; below = omega arith }

-- the fields f and g agree there
abbrev pub Agree : {A : Type 0} (w h bx by l r u d : ℕ) (f g : ℕ → ℕ → A) → Type 0
Agree w h bx by l r u d f g = (x y : ℕ) → In w h bx by l r u d x y → f x y ≡ g x y

-- the offset reaches at most l left, r right, u up and d down
abbrev pub reaches : ℕ → ℕ → ℕ → ℕ → ℤ → ℤ → Bool
reaches l r u d dx dy = (leb (back dx) l && leb (ahead dx) r) && (leb (back dy) u && leb (ahead dy) d)

both_l : (a b : Bool) → T (a && b) → T a
both_l true b t = tt
both_l false b t = t

both_r : (a b : Bool) → T (a && b) → T b
both_r true b t = t
both_r false b t = absurd t

-- on an axis of n places, those at most l below and r above b stand on another axis, of m places, where `to` says: an offset that stays
-- within leads to places that stand for each other
abbrev pub Carries : ℕ → ℕ → (ℕ → ℕ) → ℕ → ℕ → ℕ → Type 0
Carries n m to b l r = (p : ℕ) (d : ℤ) → p < n → b + back d ≤ p + l → p + ahead d ≤ b + r → to (moved n p d) ≡ moved m (to p) d

-- the field f of a picture of w by h, and g of one of cols by rows, agree at most l left, r right, u above and d below (bx, by)
pub record Match {A : Type 0} (w h cols rows : ℕ) (to_x to_y : ℕ → ℕ) (bx by l r u d : ℕ) (f g : ℕ → ℕ → A) : Type 0 where
  pub along : Carries w cols to_x bx l r
  pub down : Carries h rows to_y by u d
  pub same : (x y : ℕ) → In w h bx by l r u d x y → f x y ≡ g (to_x x) (to_y y)

-- fields of one picture: each place stands for itself
pub agreed : {A : Type 0} {w h bx by l r u d : ℕ} {f g : ℕ → ℕ → A} → Agree w h bx by l r u d f g
    → Match w h w h (λ x. x) (λ y. y) bx by l r u d f g
agreed e = record { along = λ p d i j k. refl; down = λ p d i j k. refl; same = e }

module _ {A : Type 0} {w h cols rows : ℕ} {to_x to_y : ℕ → ℕ} {bx by : ℕ} {f g : ℕ → ℕ → A} where
  -- fields that agree on a rectangle agree on a narrower one
  pub narrower : {l r u d l' r' u' d' : ℕ} → l ≤ l' → r ≤ r' → u ≤ u' → d ≤ d' → Match w h cols rows to_x to_y bx by l' r' u' d' f g
      → Match w h cols rows to_x to_y bx by l r u d f g
  narrower hl hr hu hd e = record {
    along = λ p q i j k. e.along p q i (omega arith) (omega arith);
    down = λ p q i j k. e.down p q i (omega arith) (omega arith);
    same = λ x y i. e.same x y
        (record { on_x = omega arith; on_y = omega arith; left = omega arith; right = omega arith; above = omega arith; below = omega arith });
  }

  -- fields that agree on a rectangle with a margin agree at an offset within the margin, from each place of the rectangle
  pub near_agrees : {l r u d : ℕ} (l' r' u' d' : ℕ) → Match w h cols rows to_x to_y bx by (l + l') (r + r') (u + u') (d + d') f g
      → (x y : ℕ) → In w h bx by l r u d x y → (dx dy : ℤ) → T (reaches l' r' u' d' dx dy)
      → near w h f x y dx dy ≡ near cols rows g (to_x x) (to_y y) dx dy
  near_agrees {l} {r} {u} {d} l' r' u' d' e x y i dx dy t =
      let tx = both_l (leb (back dx) l' && leb (ahead dx) r') (leb (back dy) u' && leb (ahead dy) d') t in
      let ty = both_r (leb (back dx) l' && leb (ahead dx) r') (leb (back dy) u' && leb (ahead dy) d') t in
      let xl = leb→le (back dx) l' (both_l (leb (back dx) l') (leb (ahead dx) r') tx) in
      let xr = leb→le (ahead dx) r' (both_r (leb (back dx) l') (leb (ahead dx) r') tx) in
      let yl = leb→le (back dy) u' (both_l (leb (back dy) u') (leb (ahead dy) d') ty) in
      let yr = leb→le (ahead dy) d' (both_r (leb (back dy) u') (leb (ahead dy) d') ty) in
      let p = moved_near w x dx i.on_x in
      let q = moved_near h y dy i.on_y in
      e.same (moved w x dx) (moved h y dy)
      (record { on_x = omega arith; on_y = omega arith; left = omega arith; right = omega arith; above = omega arith; below = omega arith })
      ∙ ap₂ {C = A} g (e.along x dx i.on_x (omega arith) (omega arith)) (e.down y dy i.on_y (omega arith) (omega arith))

  -- so records F and G of what lies within the margin agree on the rectangle
  pub stage : {B : Type 0} {F G : ℕ → ℕ → B} {l r u d : ℕ} (l' r' u' d' : ℕ)
      → Match w h cols rows to_x to_y bx by (l + l') (r + r') (u + u') (d + d') f g
      → ((x y : ℕ) → In w h bx by l r u d x y
      → ((dx dy : ℤ) → T (reaches l' r' u' d' dx dy) → near w h f x y dx dy ≡ near cols rows g (to_x x) (to_y y) dx dy)
      → F x y ≡ G (to_x x) (to_y y))
      → Match w h cols rows to_x to_y bx by l r u d F G
  stage l' r' u' d' e make = record {
    along = λ p q i j k. e.along p q i (omega arith) (omega arith);
    down = λ p q i j k. e.down p q i (omega arith) (omega arith);
    same = λ x y i. make x y i (near_agrees l' r' u' d' e x y i);
  }
