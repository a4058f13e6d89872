-- Laws of `Root.antt` on patterns: `single` grows with the pattern; `root_bits` is the pattern of the one single nearest the root, and no
-- root lies midway between two singles. Assumes nothing.
use Rattle.std.specs.Prelude.{◌≡◌, refl, ◌⊎◌, ℕ, zero, suc, ◌+◌, ◌-◌, ◌*◌, ◌/◌, ◌%◌, ◌^◌, ◌≤◌, ◌<◌, Bool, true, false, not, cond, T, ltb}
use Rattle.std.proofs.Common.{sym, ap, ◌∙◌, subst, inl, inr, zero-le, le_refl, le_trans, le_of_eq, le_of_lt, lt_of_lt_of_le, lt_of_le_of_lt, not-le_of_lt, eq-or-lt_of_le, le_antisymm, add-zero, add_assoc, add-mul, mul-add, mul-one, one-mul, mul_comm, mul_assoc, mul_left_comm, mul-le-mul, mul-le-mul_left, mul-le-mul_right, mul-lt-mul_of_pos_right, le-mul_of_pos_right, pow-suc, arith, le→leb, leb→le, T_not, lit<, lt→ltb, nltb→le, ltb→lt, pow-add, pow_pos}
use Rattle.std.proofs.Math.Nat.{eq_of_mul-eq-mul_right, pow-succ'}
use Rattle.std.proofs.Math.Dec.{nleb→lt, not_T}
use Rattle.std.specs.Float.Ieee.Bits.{is_true, is_false}
use Rattle.single.specs.Root.{single, reaches, largest, root_bits}

pub lt_or_ge : (a b : ℕ) → (a < b) ⊎ (b ≤ a)
lt_or_ge a b = go (ltb a b) (ltb→lt a b) (nltb→le a b)
  where
    go : (t : Bool) → (T t → a < b) → (T (not t) → b ≤ a) → (a < b) ⊎ (b ≤ a)
    go true h k = inl (h tt)
    go false h k = inr (k tt)

-- ---- `single`
pub single_low : (c : ℕ) → c < 2 ^ 23 → single c ≡ c
unfolding single
single_low c h = rw (is_true (ltb c (2 ^ 23)) (lt→ltb c (2 ^ 23) h))

pub single_high : (c : ℕ) → 2 ^ 23 ≤ c → single c ≡ (2 ^ 23 + c % 2 ^ 23) * 2 ^ (c / 2 ^ 23 - 1)
unfolding single
single_high c h = rw (is_false (ltb c (2 ^ 23)) (not_T (ltb c (2 ^ 23)) (λ t. not-le_of_lt (ltb→lt c (2 ^ 23) t) h)))

-- the single with the digits r and the exponent's field j + 1 is r * 2 ^ j units; r may be 2 ^ 24, where the next field begins
pub single_at : (j r : ℕ) → 2 ^ 23 ≤ r → r ≤ 2 ^ 24 → single (j * 2 ^ 23 + r) ≡ r * 2 ^ j
single_at j r lo hi = single_high (j * 2 ^ 23 + r) (omega arith) ∙ elim (eq-or-lt_of_le hi) [ inl e ↦ at_top e | inr l ↦ inside l ]
  where
    inside : r < 2 ^ 24 → (2 ^ 23 + (j * 2 ^ 23 + r) % 2 ^ 23) * 2 ^ ((j * 2 ^ 23 + r) / 2 ^ 23 - 1) ≡ r * 2 ^ j
    inside l =
        let d : 2 ^ 23 + (j * 2 ^ 23 + r) % 2 ^ 23 ≡ r = omega arith in
        let f : (j * 2 ^ 23 + r) / 2 ^ 23 - 1 ≡ j = omega arith in
        rw (d, f)

    at_top : r ≡ 2 ^ 24 → (2 ^ 23 + (j * 2 ^ 23 + r) % 2 ^ 23) * 2 ^ ((j * 2 ^ 23 + r) / 2 ^ 23 - 1) ≡ r * 2 ^ j
    at_top e =
        let d : 2 ^ 23 + (j * 2 ^ 23 + r) % 2 ^ 23 ≡ 2 ^ 23 = omega arith in
        let f : (j * 2 ^ 23 + r) / 2 ^ 23 - 1 ≡ suc j = omega arith in
        rw (d, f, pow-succ', e) (omega arith)

-- A single and the next are r and r + 1 times one power of two, and r has 24 digits at most: exactly 24 where the power is not 1.
record Neighbours (c : ℕ) : Type 0 where
  pub r : ℕ
  pub j : ℕ
  pub here : single c ≡ r * 2 ^ j
  pub next : single (c + 1) ≡ (r + 1) * 2 ^ j
  pub hi : r < 2 ^ 24
  pub lo : (j ≡ 0) ⊎ (2 ^ 23 ≤ r)

neighbours : (c : ℕ) → Neighbours c
neighbours c =
    elim (lt_or_ge c (2 ^ 23)) [
      | inl h ↦ record {
        r = c;
        j = 0;
        here = single_low c h ∙ sym (mul-one c);
        next = up_to (c + 1) (omega arith) ∙ sym (mul-one (c + 1));
        hi = omega arith;
        lo = inl refl;
      }
      | inr h ↦
          let r = 2 ^ 23 + c % 2 ^ 23 in
          let j = c / 2 ^ 23 - 1 in
          let e : j * 2 ^ 23 + r ≡ c = omega arith in
          record {
            r = r;
            j = j;
            here = ap single (sym e) ∙ single_at j r (omega arith) (omega arith);
            next =
                ap (λ (x : ℕ). single (x + 1)) (sym e) ∙ ap single (add_assoc (j * 2 ^ 23) r 1)
                ∙ single_at j (r + 1) (omega arith) (omega arith);
            hi = omega arith;
            lo = inr (omega arith);
          }
    ]
  where
    at_hid : single (2 ^ 23) ≡ 2 ^ 23
    at_hid = single_at 0 (2 ^ 23) (le_refl (2 ^ 23)) (omega arith)

    up_to : (c : ℕ) → c ≤ 2 ^ 23 → single c ≡ c
    up_to c h = elim (eq-or-lt_of_le h) [ inl e ↦ ap single e ∙ at_hid ∙ sym e | inr l ↦ single_low c l ]

single_step : (c : ℕ) → single c < single (c + 1)
single_step c =
    let n = neighbours c in
    rw (n.here, n.next) (mul-lt-mul_of_pos_right (omega arith) (pow_pos n.j))

pub single_mono : (b c : ℕ) → b ≤ c → single b ≤ single c
single_mono b c h = subst (λ (x : ℕ). single b ≤ single x) (omega arith) (more (c - b))
  where
    more : (d : ℕ) → single b ≤ single (b + d)
    more zero = le_of_eq (ap single (sym (add-zero b)))
    more (suc d) = le_trans (more d) (le_trans (le_of_lt (single_step (b + d))) (le_of_eq (ap single (omega arith))))

single_lt : (b c : ℕ) → b < c → single b < single c
single_lt b c h = lt_of_lt_of_le (single_step b) (single_mono (b + 1) c (omega arith))

pub single_back : (b c : ℕ) → single b ≤ single c → b ≤ c
single_back b c h = elim (lt_or_ge c b) [ inl l ↦ absurd (not-le_of_lt (single_lt c b l) h) | inr l ↦ l ]

-- ---- `reaches`. The squares that it compares: of twice the middle of two singles, and of twice the root of n units
abbrev pub middle² : ℕ → ℕ → ℕ
middle² c d = (single c + single d) * (single c + single d)

abbrev pub root² : ℕ → ℕ
root² n = 4 * (n * 2 ^ 149)

pub reaches_i : (n c : ℕ) → middle² (c - 1) c ≤ root² n → T (reaches n c)
unfolding reaches
reaches_i n c h = le→leb (middle² (c - 1) c) (root² n) h

reaches_e : (n c : ℕ) → T (reaches n c) → middle² (c - 1) c ≤ root² n
unfolding reaches
reaches_e n c t = leb→le (middle² (c - 1) c) (root² n) t

pub short_i : (n c : ℕ) → root² n < middle² (c - 1) c → T (not (reaches n c))
short_i n c h = not_T (reaches n c) (λ t. not-le_of_lt h (reaches_e n c t))

short_e : (n c : ℕ) → T (not (reaches n c)) → root² n < middle² (c - 1) c
unfolding reaches
short_e n c t = nleb→lt (middle² (c - 1) c) (root² n) t

middle_mono : (a b c d : ℕ) → a ≤ c → b ≤ d → middle² a b ≤ middle² c d
middle_mono a b c d h k =
    let s : single a + single b ≤ single c + single d = omega (arith, single_mono a c h, single_mono b d k) in
    mul-le-mul s s

root_mono : (m n : ℕ) → m ≤ n → root² m ≤ root² n
root_mono m n h = mul-le-mul_left 4 (mul-le-mul_right (2 ^ 149) h)

-- a root that reaches c reaches each pattern below c, and a larger root reaches c too
reaches_mono : (m n b c : ℕ) → m ≤ n → b ≤ c → T (reaches m c) → T (reaches n b)
reaches_mono m n b c k h t =
    reaches_i n b (le_trans (middle_mono (b - 1) b (c - 1) c (omega arith) h) (le_trans (reaches_e m c t) (root_mono m n k)))

-- ---- the one pattern that the root of n units reaches and whose next one it does not reach
abbrev pub Ends : ℕ → ℕ → Type 0
Ends n t = T (reaches n t) × T (not (reaches n (t + 1)))

-- a larger root ends no lower
ends_mono : (m n s t : ℕ) → m ≤ n → Ends m s → Ends n t → s ≤ t
ends_mono m n s t k p q =
    elim (lt_or_ge t s) [
      | inl l ↦ absurd (T_not (reaches n (t + 1)) q.1 (reaches_mono m n (t + 1) s k (omega arith) p.0))
      | inr l ↦ l
    ]

ends_unique : (n s t : ℕ) → Ends n s → Ends n t → s ≡ t
ends_unique n s t p q = le_antisymm (ends_mono n n s t (le_refl n) p q) (ends_mono n n t s (le_refl n) q p)

largest_ends : (d c n : ℕ) → T (reaches n c) → T (not (reaches n (c + 2 ^ d))) → Ends n (largest d c n)
unfolding largest
largest_ends zero c n p q = (p, q)
largest_ends (suc d) c n p q = go (reaches n (c + 2 ^ d)) refl (largest_ends d)
  where
    twice : c + 2 ^ suc d ≡ c + 2 ^ d + 2 ^ d
    twice = omega (arith, pow-suc 2 d)

    go : (b : Bool) → reaches n (c + 2 ^ d) ≡ b → ((c n : ℕ) → T (reaches n c) → T (not (reaches n (c + 2 ^ d))) → Ends n (largest d c n))
        → Ends n (largest d (cond b (c + 2 ^ d) c) n)
    go true e ih = ih (c + 2 ^ d) n (subst T (sym e) tt) (subst (λ (x : ℕ). T (not (reaches n x))) twice q)
    go false e ih = ih c n p (subst (λ (x : Bool). T (not x)) (sym e) tt)

-- 0x7f80_0000 is the pattern of the infinity, and 0x8000_0000 is where the search ends
reaches_zero : (n : ℕ) → T (reaches n 0)
unfolding single
reaches_zero n = reaches_i n 0 zero-le

far : root² (single 0x7f80_0000) < middle² (0x8000_0000 - 1) 0x8000_0000
unfolding single
far = lit< tt

root_bits_ends : (b : ℕ) → b < 0x7f80_0000 → Ends (single b) (root_bits b)
unfolding root_bits
root_bits_ends b h =
    let top = lt_of_le_of_lt (root_mono (single b) (single 0x7f80_0000) (single_mono b 0x7f80_0000 (le_of_lt h))) far in
    largest_ends 31 0 (single b) (reaches_zero (single b)) (short_i (single b) 0x8000_0000 top)

-- so a pattern with these two properties is the root's
pub root_bits_is : (b t : ℕ) → b < 0x7f80_0000 → Ends (single b) t → root_bits b ≡ t
root_bits_is b t h e = ends_unique (single b) (root_bits b) t (root_bits_ends b h) e

pub root_bits_mono : (b c : ℕ) → b ≤ c → c < 0x7f80_0000 → root_bits b ≤ root_bits c
root_bits_mono b c h k =
    ends_mono (single b) (single c) (root_bits b) (root_bits c) (single_mono b c h) (root_bits_ends b (lt_of_le_of_lt h k)) (root_bits_ends c k)

-- ---- no tie. The sum of two neighbours is an odd number times a power of two, so its square is q * 2 ^ a with an odd q. Four
-- times a single is m * 2 ^ b, with m of 24 digits.
cut : (x a y b : ℕ) → a ≤ b → x * 2 ^ a ≡ y * 2 ^ b → x ≡ y * 2 ^ (b - a)
cut x a y b h e =
    let parts : b - a + a ≡ b = omega arith in
    eq_of_mul-eq-mul_right (2 ^ a) (pow_pos a) x (y * 2 ^ (b - a)) (rw (mul_assoc y (2 ^ (b - a)) (2 ^ a), ← pow-add 2 (b - a) a, parts) e)

odd_part : (q a m b : ℕ) → q % 2 ≡ 1 → q * 2 ^ a ≡ m * 2 ^ b → (b ≤ a) × (q ≤ m)
odd_part q a m b odd e =
    elim (lt_or_ge a b) [
      | inl l ↦
          let k = b - a - 1 in
          let one : b - a ≡ suc k = omega arith in
          let even : q ≡ m * 2 ^ k * 2 =
          cut q a m b (le_of_lt l) e ∙ ap (λ (x : ℕ). m * 2 ^ x) one ∙ rw (pow-suc 2 k) (sym (mul_assoc m (2 ^ k) 2)) in
          absurd (omega arith)
      | inr l ↦ (l, le_trans (le-mul_of_pos_right q (pow_pos (a - b))) (le_of_eq (sym (cut m b q a l (sym e)))))
    ]

pub sq_scale : (a p : ℕ) → a * p * (a * p) ≡ a * a * (p * p)
sq_scale a p = simp (mul_assoc, mul_left_comm)

-- (2 * r + 1) ^ 2
abbrev pub sq : ℕ → ℕ
sq r = (r + (r + 1)) * (r + (r + 1))

pub sq_next : (r : ℕ) → sq r ≡ 4 * (r * r) + 4 * r + 1
sq_next r = simp (mul-add, add-mul, mul-one, one-mul) (omega arith)

-- so the root of a single never lies midway between two neighbours
pub no_tie : (b c : ℕ) → middle² c (c + 1) ≡ root² (single b) → ⊥
no_tie b c e =
    let n = neighbours c in
    let m = neighbours b in
    let p = odd_part (sq n.r) (n.j + n.j) m.r (m.j + 151) (omega (arith, sq_next n.r)) (sym (left n) ∙ e ∙ right m) in
    elim n.lo [ inl z ↦ omega arith | inr l ↦ omega (arith, sq_next n.r) ]
  where
    left : (n : Neighbours c) → middle² c (c + 1) ≡ sq n.r * 2 ^ (n.j + n.j)
    left n =
        rw (n.here, n.next, ← add-mul n.r (n.r + 1) (2 ^ n.j), sq_scale (n.r + (n.r + 1)) (2 ^ n.j), ← pow-add 2 n.j n.j)

    right : (m : Neighbours b) → root² (single b) ≡ m.r * 2 ^ (m.j + 151)
    right m =
        rw (m.here, pow-add 2 m.j 151)
        (mul_comm 4 (m.r * 2 ^ m.j * 2 ^ 149) ∙ mul_assoc (m.r * 2 ^ m.j) (2 ^ 149) 4 ∙ mul_assoc m.r (2 ^ m.j) (2 ^ 151))

-- ---- the root is the nearest single: the middle of the root r and any other single y is on y's side of the exact root
pub nearest_below : (b y : ℕ) → b < 0x7f80_0000 → y < root_bits b → middle² y (root_bits b) < root² (single b)
nearest_below b y h l =
    let r = root_bits b in
    let e : r - 1 + 1 ≡ r = omega arith in
    elim (eq-or-lt_of_le (reaches_e (single b) r (root_bits_ends b h).0)) [
      | inl t ↦ absurd (no_tie b (r - 1) (subst (λ (x : ℕ). middle² (r - 1) x ≡ root² (single b)) (sym e) t))
      | inr t ↦ lt_of_le_of_lt (middle_mono y r (r - 1) r (omega arith) (le_refl r)) t
    ]

pub nearest_above : (b y : ℕ) → b < 0x7f80_0000 → root_bits b < y → root² (single b) < middle² y (root_bits b)
nearest_above b y h l =
    let r = root_bits b in
    lt_of_lt_of_le (short_e (single b) (r + 1) (root_bits_ends b h).1)
    (le_trans (middle_mono (r + 1 - 1) (r + 1) r y (omega arith) (omega arith)) (le_of_eq (middle_comm r y)))
  where
    middle_comm : (c d : ℕ) → middle² c d ≡ middle² d c
    middle_comm c d = ap (λ (s : ℕ). s * s) (omega arith)
