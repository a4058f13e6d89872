-- Laws of `sqrt_of` on the values themselves, which `RootTheorems.antt` puts together. Assumes nothing.
use Rattle.std.specs.Prelude.{◌≡◌, refl, ℕ, zero, suc, ◌+◌, ◌-◌, ◌*◌, ◌/◌, ◌%◌, ◌^◌, ◌≤◌, ◌<◌, Bool, true, false, not, ◌&&◌, ◌||◌, cond, pos, negsuc, T, leb, ltb, eqb, Float}
use Rattle.std.proofs.Common.{sym, ap, ◌∙◌, subst, inl, inr, le_of_eq, le_of_lt, lt_of_le_of_lt, not-le_of_lt, mod-eq_of_lt, mul-one, mul-le-mul_right, le_of_mul-le-mul_right, eq-zero-or-pos, arith, leb→le, le→leb, ltb→lt, eqb→eq, lit<, pow_pos}
use Rattle.std.proofs.Math.Nat.{eq_of_mul-eq-mul_right}
use Rattle.std.proofs.Math.Dec.{not_T}
use Rattle.std.specs.Float.{nan, inf, fin, binary32}
use Rattle.std.specs.Float.Ieee.{up, down, odd, of_fields, of_bits, to_bits, nan_bits, fits, is_nan, le}
use Rattle.std.specs.Float.Ieee.Fits.{down_pos}
use Rattle.std.specs.Float.Ieee.Bits.{is_true, is_false, cond_no, of_bits-to_bits, of_bits-fits, to_bits-of_bits, nan_bits_is}
use Rattle.std.specs.Float.Ieee.Exact.{HasValue, odd_sign}
use Rattle.std.specs.Float.Ieee.Order.{transfer, le_of_values}
use Rattle.single.specs.Single.{f0, f3}
use Rattle.single.specs.Root.{single, root_bits, sqrt_of, rooted}
use Rattle.single.proofs.Laws.{lt_or_ge, single_low, single_high, single_mono}
use Rattle.single.proofs.Laws.{single_back, root_bits_mono, nearest_below, nearest_above}

-- ---- the patterns below 0x7f80_0000 are those of the finite values without a sign bit
of_bits_is : (b : ℕ) → of_bits binary32 b ≡ of_fields binary32 (leb (2 ^ 31) b) (b % 2 ^ 31 / 2 ^ 23) (b % 2 ^ 23)
unfolding of_bits
of_bits_is b = refl

sign_clear : (b : ℕ) → b < 2 ^ 31 → of_bits binary32 b ≡ of_fields binary32 false (b / 2 ^ 23) (b % 2 ^ 23)
sign_clear b u =
    of_bits_is b ∙ rw (is_false (leb (2 ^ 31) b) (not_T (leb (2 ^ 31) b) (λ t. not-le_of_lt u (leb→le (2 ^ 31) b t))), mod-eq_of_lt u)

at_zero : (t : ℕ) → of_fields binary32 false 0 t ≡ odd 24 false t 0 149
unfolding of_fields
at_zero t = refl

under_ones : (t x : ℕ) → suc x < 255 → of_fields binary32 false (suc x) t ≡ odd 24 false (2 ^ 23 + t) x 149
unfolding of_fields
under_ones t x h =
    cond_no (eqb (suc x) 255) (cond (eqb t 0) (inf false) nan) (odd 24 false (2 ^ 23 + t) x 149)
    (not_T (eqb (suc x) 255) (λ u. omega (arith, eqb→eq (suc x) 255 u)))

-- such a pattern stands for `single b` units of 2 ^ -149
pub has_value : (b : ℕ) → b < 0x7f80_0000 → HasValue (of_bits binary32 b) false (single b) (2 ^ 149)
has_value b h = elim (lt_or_ge b (2 ^ 23)) [ inl l ↦ low l | inr l ↦ high l ]
  where
    low : b < 2 ^ 23 → HasValue (of_bits binary32 b) false (single b) (2 ^ 149)
    low l =
        let f : b / 2 ^ 23 ≡ 0 = omega arith in
        let e : of_bits binary32 b ≡ odd 24 false b 0 149 = sign_clear b (omega arith) ∙ rw (f, mod-eq_of_lt l) (at_zero b) in
        rw (e, single_low b l) (rw (mul-one b) at (odd_sign 24 false b 0 149))

    high : 2 ^ 23 ≤ b → HasValue (of_bits binary32 b) false (single b) (2 ^ 149)
    high l =
        let f : b / 2 ^ 23 ≡ suc (b / 2 ^ 23 - 1) = omega arith in
        let e : of_bits binary32 b ≡ odd 24 false (2 ^ 23 + b % 2 ^ 23) (b / 2 ^ 23 - 1) 149 =
        sign_clear b (omega arith) ∙ ap (λ (x : ℕ). of_fields binary32 false x (b % 2 ^ 23)) f
        ∙ under_ones (b % 2 ^ 23) (b / 2 ^ 23 - 1) (omega arith) in
        rw (e, single_high b l) (odd_sign 24 false (2 ^ 23 + b % 2 ^ 23) (b / 2 ^ 23 - 1) 149)

value_rooted : (x : Float) (a c : ℕ) → HasValue x false a c → T (rooted x)
value_rooted nan a c h = absurd h
value_rooted (inf s) a c h = absurd h
value_rooted (fin true m e) a c h = subst T h.0 tt
value_rooted (fin false m e) a c h = tt

pub rooted_of_bits : (b : ℕ) → b < 0x7f80_0000 → T (rooted (of_bits binary32 b))
rooted_of_bits b h = value_rooted (of_bits binary32 b) (single b) (2 ^ 149) (has_value b h)

odd_neg : (d q k l : ℕ) → T (rooted (odd d true q k l)) → ⊥
unfolding odd
odd_neg d zero k l p = p
odd_neg d (suc q) k l p = p

fields_neg : (x t : ℕ) → T (rooted (of_fields binary32 true x t)) → ⊥
unfolding of_fields
fields_neg zero t p = odd_neg 24 t 0 149 p
fields_neg (suc x) t p = go (eqb (suc x) 255) (eqb t 0) p
  where
    go : (a b : Bool) → T (rooted (cond a (cond b (inf true) nan) (odd 24 true (2 ^ 23 + t) x 149))) → ⊥
    go true true q = q
    go true false q = q
    go false b q = odd_neg 24 (2 ^ 23 + t) x 149 q

at_ones : (t : ℕ) → T (rooted (of_fields binary32 false 255 t)) → ⊥
unfolding of_fields
at_ones t p = go (eqb t 0) p
  where
    go : (b : Bool) → T (rooted (cond b (inf false) nan)) → ⊥
    go true q = q
    go false q = q

pub of_bits_rooted : (b : ℕ) → T (rooted (of_bits binary32 b)) → b < 0x7f80_0000
of_bits_rooted b p =
    elim (lt_or_ge b 0x7f80_0000) [ inl l ↦ l | inr l ↦ absurd (elim (lt_or_ge b (2 ^ 31)) [ inl u ↦ ones l u | inr u ↦ signed u ]) ]
  where
    signed : 2 ^ 31 ≤ b → ⊥
    signed u = fields_neg (b % 2 ^ 31 / 2 ^ 23) (b % 2 ^ 23) (rw (of_bits_is b, is_true (leb (2 ^ 31) b) (le→leb (2 ^ 31) b u)) at p)

    ones : 0x7f80_0000 ≤ b → b < 2 ^ 31 → ⊥
    ones l u =
        let f : b / 2 ^ 23 ≡ 255 = omega arith in
        at_ones (b % 2 ^ 23) (rw (sign_clear b u, f) at p)

-- ---- a value that fits, and its pattern
pub rooted_bits : (x : Float) → T (fits binary32 x) → T (rooted x) → to_bits binary32 x < 0x7f80_0000
rooted_bits x f p = of_bits_rooted (to_bits binary32 x) (rw (of_bits-to_bits binary32 x f) p)

pub bits_rooted : (x : Float) → T (fits binary32 x) → to_bits binary32 x < 0x7f80_0000 → T (rooted x)
bits_rooted x f h = rw (of_bits-to_bits binary32 x f) at (rooted_of_bits (to_bits binary32 x) h)

-- x is `single` of its pattern, in units of 2 ^ -149
pub size_is : (x : Float) → T (fits binary32 x) → T (rooted x) → HasValue x false (single (to_bits binary32 x)) (2 ^ 149)
size_is x f p =
    subst (λ (w : Float). HasValue w false (single (to_bits binary32 x)) (2 ^ 149)) (of_bits-to_bits binary32 x f)
    (has_value (to_bits binary32 x) (rooted_bits x f p))

pub no_nan : (x : Float) → T (rooted x) → T (not (is_nan x))
unfolding is_nan
no_nan nan p = absurd p
no_nan (inf s) p = tt
no_nan (fin s m e) p = tt

-- ---- the root's pattern is that of a finite value without a sign bit
last : root_bits 0x7f7f_ffff ≡ 0x5f7f_ffff
unfolding root_bits
last = refl

pub root_lt : (b : ℕ) → b < 0x7f80_0000 → root_bits b < 0x7f80_0000
root_lt b h = omega (arith, root_bits_mono b 0x7f7f_ffff (omega arith) (lit< tt), last)

pub root_no_nan : (b : ℕ) → b < 0x7f80_0000 → T (not (nan_bits binary32 (root_bits b)))
root_no_nan b h = rw (nan_bits_is binary32 (root_bits b)) (no_nan (of_bits binary32 (root_bits b)) (rooted_of_bits (root_bits b) (root_lt b h)))

pub sqrt_of_is : (x : Float) → sqrt_of x ≡ of_bits binary32 (root_bits (to_bits binary32 x))
unfolding sqrt_of
sqrt_of_is x = refl

pub sqrt_fits : (x : Float) → T (fits binary32 (sqrt_of x))
sqrt_fits x = rw (sqrt_of_is x) (of_bits-fits binary32 (root_bits (to_bits binary32 x)))

pub sqrt_rooted : (x : Float) → T (fits binary32 x) → T (rooted x) → T (rooted (sqrt_of x))
sqrt_rooted x f p = rw (sqrt_of_is x) (rooted_of_bits (root_bits (to_bits binary32 x)) (root_lt (to_bits binary32 x) (rooted_bits x f p)))

-- ---- order
lt_or_eq : (a b : ℕ) → T (ltb a b || (eqb a b && true)) → a ≤ b
lt_or_eq a b t = go (ltb a b) (eqb a b) (ltb→lt a b) (eqb→eq a b) t
  where
    go : (p q : Bool) → (T p → a < b) → (T q → a ≡ b) → T (p || (q && true)) → a ≤ b
    go true q h k t = le_of_lt (h tt)
    go false true h k t = le_of_eq (k tt)
    go false false h k t = absurd t

le_units : (x y : Float) (a b : ℕ) → T (rooted x) → T (rooted y) → HasValue x false a (2 ^ 149) → HasValue y false b (2 ^ 149) → T (le x y)
    → a ≤ b
unfolding le
le_units nan y a b p q v w h = absurd p
le_units (inf s) y a b p q v w h = absurd p
le_units (fin true m e) y a b p q v w h = absurd p
le_units (fin false m e) nan a b p q v w h = absurd q
le_units (fin false m e) (inf t) a b p q v w h = absurd q
le_units (fin false m e) (fin true n d) a b p q v w h = absurd q
le_units (fin false m e) (fin false n d) a b p q v w h =
    le_of_mul-le-mul_right
    (transfer a b (2 ^ 149) (2 ^ 149) (m * up e) (n * up d) (down e) (down d) (down_pos e) (down_pos d) (sym v.1) (sym w.1)
    (lt_or_eq (m * up e * down d) (n * up d * down e) h))
    (pow_pos 149)

-- of two values without a sign bit the larger has the larger pattern
pub bits_mono : (x y : Float) → T (fits binary32 x) → T (fits binary32 y) → T (rooted x) → T (rooted y) → T (le x y)
    → to_bits binary32 x ≤ to_bits binary32 y
bits_mono x y f g p q h =
    single_back (to_bits binary32 x) (to_bits binary32 y)
    (le_units x y (single (to_bits binary32 x)) (single (to_bits binary32 y)) p q (size_is x f p) (size_is y g q) h)

pub of_bits_mono : (b c : ℕ) → b ≤ c → c < 0x7f80_0000 → T (le (of_bits binary32 b) (of_bits binary32 c))
of_bits_mono b c h k =
    le_of_values (of_bits binary32 b) (of_bits binary32 c) (single b) (2 ^ 149) (single c) (2 ^ 149) (pow_pos 149) (pow_pos 149)
    (has_value b (lt_of_le_of_lt h k)) (has_value c k)
    (mul-le-mul_right (2 ^ 149) (single_mono b c h))

-- a larger value's root is no smaller
pub sqrt_mono : (x y : Float) → T (fits binary32 x) → T (fits binary32 y) → T (rooted x) → T (rooted y) → T (le x y)
    → T (le (sqrt_of x) (sqrt_of y))
sqrt_mono x y f g p q h =
    let b = to_bits binary32 x in
    let c = to_bits binary32 y in
    let k = rooted_bits y g q in
    rw (sqrt_of_is x, sqrt_of_is y) (of_bits_mono (root_bits b) (root_bits c) (root_bits_mono b c (bits_mono x y f g p q h) k) (root_lt c k))

-- ---- values
pub sqrt_zero : sqrt_of f0 ≡ f0
unfolding sqrt_of
sqrt_zero = refl

pub sqrt_nine : sqrt_of (fin false 9 (pos 0)) ≡ f3
unfolding sqrt_of
sqrt_nine = refl

-- of 2 ^ -16, 2 ^ -8
pub sqrt_2⁻¹⁶ : sqrt_of (fin false 1 (negsuc 15)) ≡ fin false 1 (negsuc 7)
unfolding sqrt_of
sqrt_2⁻¹⁶ = refl

-- only +0 has the root +0: the least other single has a root above it
least : root_bits 1 ≡ 0x1a35_04f3
unfolding root_bits
least = refl

zero_bits : to_bits binary32 f0 ≡ 0
unfolding to_bits
zero_bits = refl

zero_of : of_bits binary32 0 ≡ f0
unfolding of_bits
zero_of = refl

pub sqrt_zero_only : (x : Float) → T (fits binary32 x) → T (rooted x) → sqrt_of x ≡ f0 → x ≡ f0
sqrt_zero_only x f p e =
    let b = to_bits binary32 x in
    let h = rooted_bits x f p in
    let r = root_lt b h in
    let z : root_bits b ≡ 0 =
    sym (to_bits-of_bits binary32 (root_bits b) (omega arith) (no_nan (of_bits binary32 (root_bits b)) (rooted_of_bits (root_bits b) r)))
    ∙ ap (to_bits binary32) (sym (sqrt_of_is x) ∙ e) ∙ zero_bits in
    elim (eq-zero-or-pos b) [
      | inl none ↦ sym (of_bits-to_bits binary32 x f) ∙ ap (of_bits binary32) none ∙ zero_of
      | inr some ↦ absurd (omega (arith, root_bits_mono 1 b some h, least))
    ]

-- ---- the nearest single: where X, R and Y are x, its root and any y in units of 2 ^ -149, the middle of
-- R and Y is on Y's side of the exact root of X
same_units : (x : Float) (a b : ℕ) → HasValue x false a (2 ^ 149) → HasValue x false b (2 ^ 149) → a ≡ b
same_units nan a b v w = absurd v
same_units (inf s) a b v w = absurd v
same_units (fin s m e) a b v w = eq_of_mul-eq-mul_right (down e) (down_pos e) a b (sym v.1 ∙ w.1)

pub nearest : (x y : Float) (X R Y : ℕ) → T (fits binary32 x) → T (fits binary32 y) → HasValue x false X (2 ^ 149)
    → HasValue (sqrt_of x) false R (2 ^ 149) → HasValue y false Y (2 ^ 149)
    → (Y < R → (Y + R) * (Y + R) < 4 * (X * 2 ^ 149)) × (R < Y → 4 * (X * 2 ^ 149) < (Y + R) * (Y + R))
nearest x y X R Y f g v w u =
    let b = to_bits binary32 x in
    let c = to_bits binary32 y in
    let p = value_rooted x X (2 ^ 149) v in
    let h = rooted_bits x f p in
    let i : X ≡ single b = same_units x X (single b) v (size_is x f p) in
    let j : R ≡ single (root_bits b) =
    same_units (sqrt_of x) R (single (root_bits b)) w (rw (sqrt_of_is x) (has_value (root_bits b) (root_lt b h))) in
    let k : Y ≡ single c = same_units y Y (single c) u (size_is y g (value_rooted y Y (2 ^ 149) u)) in
    rw (i, j, k) (λ l. nearest_below b c h (back c (root_bits b) l), λ l. nearest_above b c h (back (root_bits b) c l))
  where
    back : (a b : ℕ) → single a < single b → a < b
    back a b h = elim (lt_or_ge a b) [ inl l ↦ l | inr l ↦ absurd (not-le_of_lt h (single_mono b a l)) ]
