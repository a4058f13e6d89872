-- Where a window of a picture spans a place, reading in it is reading in the picture, also where positions are clamped. Assumes nothing.
use Rattle.std.specs.Prelude.{◌≡◌, refl, Bool, true, false, cond, ℕ, suc, ◌+◌, ◌-◌, ◌≤◌, ◌<◌, min, ℤ, pos, negsuc, ltb}
use Rattle.std.proofs.Common.{sym, ◌∙◌, ap, ap₂, arith, ltb-true, ltb-false}
use Rattle.picture.specs.Picture.{clamp_z, moved}
use Rattle.picture.specs.Local.{back, ahead, Carries, Match}
use Rattle.picture.specs.Span.{Span}

forth : (n m o q k : ℕ) → o + q < n → o + m ≤ n → min (o + q + k + 1) n ≤ o + m → min (o + q + k) (n - 1) - o ≡ min (q + k) (m - 1)
forth n m o q k a b c = omega arith

back_by : (n m o q k : ℕ) (s t : Bool) → ltb (o + q) (suc k) ≡ s → ltb q (suc k) ≡ t → o + q < n → o + m ≤ n → min (o + q + 1) n ≤ o + m
    → o ≤ o + q - suc k
    → clamp_z n (cond s (negsuc (suc k - suc (o + q))) (pos (o + q - suc k))) - o ≡ clamp_z m (cond t (negsuc (suc k - suc q)) (pos (q - suc k)))
back_by n m o q k true true e e' a b c z = let l = ltb-true (o + q) (suc k) e in omega arith
back_by n m o q k true false e e' a b c z =
    let l = ltb-true (o + q) (suc k) e in
    let l' = ltb-false q (suc k) e' in
    absurd (omega arith)
back_by n m o q k false true e e' a b c z =
    let l = ltb-false (o + q) (suc k) e in
    let l' = ltb-true q (suc k) e' in
    absurd (omega arith)
back_by n m o q k false false e e' a b c z =
    let l' = ltb-false q (suc k) e' in
    let e1 : o + q - suc k ≡ o + (q - suc k) + 0 = omega arith in
    let e2 : q - suc k + 0 ≡ q - suc k = omega arith in
    let j = q - suc k in
    ap (λ (i : ℕ). min i (n - 1) - o) e1 ∙ forth n m o j 0 (omega arith) b (omega arith) ∙ ap (λ (i : ℕ). min i (m - 1)) e2

-- a place moved in the window is the place moved on the axis, seen from the window
moved_at : (n m o q : ℕ) (d : ℤ) → o + q < n → o + m ≤ n → o ≤ o + q - back d → min (o + q + ahead d + 1) n ≤ o + m
    → moved n (o + q) d - o ≡ moved m q d
unfolding moved
moved_at n m o q (pos k) a b c e = forth n m o q k a b e
moved_at n m o q (negsuc k) a b c e =
    back_by n m o q k (ltb (o + q) (suc k)) (ltb q (suc k)) refl refl a b (omega arith) c

pub moved_window : {n o m b l r : ℕ} → Span n o m b l r → Carries n m (λ p. p - o) b l r
moved_window {n} {o} {m} {b} {l} {r} s p d hp hl hr =
    let e : o + (p - o) ≡ p = omega arith in
    ap (λ (q : ℕ). moved n q d - o) (sym e)
    ∙ moved_at n m o (p - o) d (omega arith) s.inside (omega arith) (omega arith)

-- a window g of the field f, where it spans what lies around (bx, by) or ends at the border
pub windowed : {A : Type 0} {w h x0 y0 cols rows bx by l r u d : ℕ} {f g : ℕ → ℕ → A} → Span w x0 cols bx l r → Span h y0 rows by u d
    → ((x y : ℕ) → x < cols → y < rows → g x y ≡ f (x0 + x) (y0 + y))
    → Match w h cols rows (λ x. x - x0) (λ y. y - y0) bx by l r u d f g
windowed {A} {w} {h} {x0} {y0} {cols} {rows} {f = f} {g = g} sx sy e = record {
  along = moved_window sx;
  down = moved_window sy;
  same = λ x y i.
      let ex : x0 + (x - x0) ≡ x = omega arith in
      let ey : y0 + (y - y0) ≡ y = omega arith in
      sym (e (x - x0) (y - y0) (omega arith) (omega arith) ∙ ap₂ {C = A} f ex ey);
}
