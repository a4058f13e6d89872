-- The order of floats: no value is both below and above another, and values that compare equal are neither. Assumes nothing.
use Rattle.std.specs.Prelude.{◌≡◌, refl, Bool, true, false, ◌&&◌, ◌||◌, ℕ, ◌+◌, ◌*◌, ◌<◌, T, ltb, eqb, Float}
use Rattle.std.proofs.Common.{sym, not-le_of_lt, le_of_lt, le_of_eq, add_comm, arith, eqb→eq, ltb→lt}
use Rattle.std.specs.Float.{nan, inf, fin}
use Rattle.std.specs.Float.Ieee.{lt, eq, up, down}
use Rattle.std.specs.Float.Ieee.Fits.{and_l, and_r}

ltb_asym : (a b : ℕ) → (ltb a b && ltb b a) ≡ false
ltb_asym a b = go (ltb a b) (ltb b a) (ltb→lt a b) (ltb→lt b a)
  where
    go : (s t : Bool) → (T s → a < b) → (T t → b < a) → (s && t) ≡ false
    go true true h k = absurd (not-le_of_lt (h tt) (le_of_lt (k tt)))
    go true false h k = refl
    go false t h k = refl

not_less : (a b : ℕ) → a ≡ b → ltb a b ≡ false
not_less a b e = go (ltb a b) (ltb→lt a b)
  where
    go : (s : Bool) → (T s → a < b) → s ≡ false
    go true h = absurd (not-le_of_lt (h tt) (le_of_eq (sym e)))
    go false h = refl

-- a value is not both below and above another
pub lt_asym : (x y : Float) → (lt x y && lt y x) ≡ false
unfolding lt
lt_asym nan y = refl
lt_asym (inf s) nan = refl
lt_asym (inf true) (inf true) = refl
lt_asym (inf true) (inf false) = refl
lt_asym (inf false) (inf t) = refl
lt_asym (inf true) (fin t n d) = refl
lt_asym (inf false) (fin t n d) = refl
lt_asym (fin s m e) nan = refl
lt_asym (fin s m e) (inf true) = refl
lt_asym (fin s m e) (inf false) = refl
lt_asym (fin false m e) (fin false n d) = ltb_asym (m * up e * down d) (n * up d * down e)
lt_asym (fin false m e) (fin true n d) = refl
lt_asym (fin true m e) (fin false n d) = last (ltb 0 (m * up e * down d + n * up d * down e))
  where
    last : (s : Bool) → (s && false) ≡ false
    last true = refl
    last false = refl
lt_asym (fin true m e) (fin true n d) = ltb_asym (n * up d * down e) (m * up e * down d)

-- values that compare equal, the two zeros among them, are neither
none : (a b : ℕ) → T (eqb a b && (false || eqb a 0)) → ltb 0 (a + b) ≡ false
none a b h =
    let e : a ≡ b = eqb→eq a b (and_l (eqb a b) (eqb a 0) h) in
    let z : a ≡ 0 = eqb→eq a 0 (and_r (eqb a b) (eqb a 0) h) in
    not_less 0 (a + b) (omega arith)

same_sign : (a b : ℕ) → T (eqb a b && true) → a ≡ b
same_sign a b h = eqb→eq a b (and_l (eqb a b) true h)

pub level_lt : (x y : Float) → T (eq x y) → (lt x y ≡ false) × (lt y x ≡ false)
unfolding lt eq
level_lt nan y h = absurd h
level_lt (inf s) nan h = absurd h
level_lt (inf true) (inf true) h = (refl, refl)
level_lt (inf true) (inf false) h = absurd h
level_lt (inf false) (inf true) h = absurd h
level_lt (inf false) (inf false) h = (refl, refl)
level_lt (inf s) (fin t n d) h = absurd h
level_lt (fin s m e) nan h = absurd h
level_lt (fin s m e) (inf t) h = absurd h
level_lt (fin false m e) (fin false n d) h =
    let k = same_sign (m * up e * down d) (n * up d * down e) h in
    (not_less (m * up e * down d) (n * up d * down e) k, not_less (n * up d * down e) (m * up e * down d) (sym k))
level_lt (fin true m e) (fin true n d) h =
    let k = same_sign (m * up e * down d) (n * up d * down e) h in
    (not_less (n * up d * down e) (m * up e * down d) (sym k), not_less (m * up e * down d) (n * up d * down e) k)
level_lt (fin false m e) (fin true n d) h =
    (refl, rw (add_comm (n * up d * down e) (m * up e * down d)) (none (m * up e * down d) (n * up d * down e) h))
level_lt (fin true m e) (fin false n d) h = (none (m * up e * down d) (n * up d * down e) h, refl)
