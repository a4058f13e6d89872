-- A threshold: a single above 0 and at most 1, subnormal ones too. Less nothing it is no more than itself, and over itself it is 1. Assumes nothing.
use mathlib.Core.Path.{◌≡◌, refl, sym, ap, ◌∙◌}
use mathlib.Core.Logic.{inl, inr}
use Prim.Native.Nat.{ℕ, ◌+◌, ◌*◌, ◌/◌, ◌%◌, ◌-◌, ◌^◌, ◌≤◌, ◌<◌, zero-le}
use native.Mathlib.Nat.{zero-mul, mul-one, mul_comm, le_refl, mul_assoc, mul_left_comm, mul_right_comm, mul-le-mul, mul-pos, sub-zero, add-zero, lt_of_le_of_lt}
use native.Mathlib.Omega.{arith}
use mathlib.Core.Bool.{Bool, true, false}
use lib.IntN.{ℤ, pos, negsuc}
use lib.Dec.{T, ltb, ltb→lt}
use lib.Pow.{pow_pos}
use lib.Ieee.{Float, fin, binary32, to_bits, up, down, neg, round, sub, mul, div, le, lt, fits}
use lib.Ieee.Fits.{down_pos, and_r}
use lib.Ieee.Exact.{HasValue, round_exact}
use lib.Ieee.Order.{le_of_values, round_mono}
use lib.Ieee.Scale.{round_same}
use lib.Ieee.Positive.{num, den, den_pos, positive, value→cross}
use Rattle.single.specs.Single.{f0, f1, ◌⊕◌, ◌⊖◌, ◌⊗◌, ◌⊘◌, max_of}
use Rattle.single.specs.Root.{single, rooted}
use Rattle.single.proofs.Laws.{lt_or_ge, single_low, single_high, single_mono}
use Rattle.single.proofs.Floats.{size_is, rooted_bits}
use Rattle.clarity.specs.Clarity.{lawful_single}
use Rattle.clarity.proofs.Thresholds.{lawful_positive, positive_rooted}
use Rattle.nonneg.proofs.Nonneg.{In, le→, →le, le_refl', le_trans', le_total', zero_le', round_rooted, round_zero, num_pos, add_is, sub_is, div_is}
use Rattle.nonneg.proofs.Nonneg.{sub_mono', sub_rooted, mul_in, div_in, max_in, up_to, self_in}

-- ---- less a zero of either sign
pub minus_zero : (x : Float) → T (rooted x) → (s : Bool) (e : ℤ) → x ⊖ fin s 0 e ≡ round binary32 false (num x) (den x)
minus_zero x p s e = go s
  where
    scaled : (n : ℕ) → n ≡ num x * down e → round binary32 false n (den x * down e) ≡ round binary32 false (num x) (den x)
    scaled n h =
        round_same binary32 false n (den x * down e) (num x) (den x) (mul-pos (den_pos x) (down_pos e)) (den_pos x)
        (rw h (mul_right_comm (num x) (down e) (den x) ∙ mul_assoc (num x) (den x) (down e)))

    as_sum : x ⊖ fin true 0 e ≡ x ⊕ fin false 0 e
    as_sum = unfold sub neg in refl

    go : (s : Bool) → x ⊖ fin s 0 e ≡ round binary32 false (num x) (den x)
    go false =
        sub_is x (fin false 0 e) p tt (→le (fin false 0 e) x tt p (rw (zero-mul (up e), zero-mul (den x)) zero-le))
        ∙ scaled _ (rw (zero-mul (up e), zero-mul (den x)) (sub-zero (num x * down e)))
    go true = as_sum ∙ add_is x (fin false 0 e) p tt ∙ scaled _ (rw (zero-mul (up e), zero-mul (den x)) (add-zero (num x * down e)))

-- ---- a single is not rounded: a pattern stands for a whole number of units of 2 ^ -149, of 24 digits and zeros after them
most : T (ltb (single 0x7f7f_ffff) (2 ^ 277))
unfolding single
most = tt

exact : (c : ℕ) → c < 0x7f80_0000 → HasValue (round binary32 false (single c) (2 ^ 149)) false (single c) (2 ^ 149)
exact c h = elim (lt_or_ge c (2 ^ 23)) [ inl l ↦ low l | inr l ↦ high l ]
  where
    under : single c < 2 ^ 277
    under = lt_of_le_of_lt (single_mono c 0x7f7f_ffff (omega arith)) (ltb→lt (single 0x7f7f_ffff) (2 ^ 277) most)

    low : c < 2 ^ 23 → HasValue (round binary32 false (single c) (2 ^ 149)) false (single c) (2 ^ 149)
    low l =
        let e : single c ≡ c * 2 ^ 0 = single_low c l ∙ sym (mul-one c) in
        round_exact binary32 false (single c) (2 ^ 149) c 0 (pow_pos 149) (omega arith) (rw e at under) (ap (λ (n : ℕ). n * 2 ^ 149) e)

    high : 2 ^ 23 ≤ c → HasValue (round binary32 false (single c) (2 ^ 149)) false (single c) (2 ^ 149)
    high l =
        let e = single_high c l in
        round_exact binary32 false (single c) (2 ^ 149) (2 ^ 23 + c % 2 ^ 23) (c / 2 ^ 23 - 1) (pow_pos 149) (omega arith) (rw e at under) (ap (λ (n : ℕ). n * 2 ^ 149) e)

module _ (x : Float) (f : T (fits binary32 x)) (p : T (rooted x)) where
  abbrev size : ℕ
  size = single (to_bits binary32 x)

  pub less_nothing : T (le (x ⊖ f0) x)
  less_nothing =
      rw (minus_zero x p false (pos 0), round_same binary32 false (num x) (den x) size (2 ^ 149) (den_pos x) (pow_pos 149) (value→cross x size (2 ^ 149) (size_is x f p)))
      (le_of_values (round binary32 false size (2 ^ 149)) x size (2 ^ 149) size (2 ^ 149) (pow_pos 149) (pow_pos 149)
      (exact (to_bits binary32 x) (rooted_bits x f p)) (size_is x f p) (le_refl (size * 2 ^ 149)))

-- ---- over itself, and nothing over it
one_is : round binary32 false 1 1 ≡ f1
unfolding round
one_is = refl

module _ (t : Float) (p : T (positive t)) where
  pub over_itself : t ⊘ t ≡ f1
  over_itself = div_is t t (positive_rooted t p) p ∙ round_same binary32 false (num t * den t) (num t * den t) 1 1 (mul-pos (num_pos t p) (den_pos t)) (pow_pos 0) (mul_comm (num t * den t) 1) ∙ one_is

  pub nothing_over : f0 ⊘ t ≡ f0
  nothing_over = rw (div_is f0 t tt p, zero-mul (den t)) (round_zero false (num t * 1) (mul-pos (num_pos t p) (pow_pos 0)))

-- ---- less nothing and over itself it is finite, even where it is no single: rounded it is 0, or at most 2 ^ 31 or 2 ^ 120 times what it was
div_mono : (x x' k k' : Float) → T (rooted x) → T (rooted x') → T (positive k) → T (positive k') → T (le x x') → T (le k' k) → T (le (x ⊘ k) (x' ⊘ k'))
div_mono x x' k k' p p' q q' h l =
    rw (div_is x k p q, div_is x' k' p' q')
    (round_mono binary32 (num x * den k) (num k * den x) (num x' * den k') (num k' * den x') (mul-pos (num_pos k q) (den_pos x)) (mul-pos (num_pos k' q') (den_pos x'))
    (cross (num x) (den x) (num x') (den x') (num k) (den k) (num k') (den k') (le→ x x' p p' h) (le→ k' k (positive_rooted k' q') (positive_rooted k q) l)))
  where
    cross : (a b a' b' c d c' d' : ℕ) → a * b' ≤ a' * b → c' * d ≤ c * d' → a * d * (c' * b') ≤ a' * d' * (c * b)
    cross a b a' b' c d c' d' h k = simp (mul_assoc, mul_comm, mul_left_comm) (simp (mul_assoc, mul_comm, mul_left_comm) at (mul-le-mul h k))

div_rooted : (x k : Float) → T (rooted x) → T (positive k) → (hi : Float) → T (rooted hi) → T (le (x ⊘ k) hi) → T (rooted (x ⊘ k))
div_rooted x k p q hi r h = rw (div_is x k p q) (round_rooted _ _ hi r (rw (div_is x k p q) at h))

abbrev 2¹²⁰ : Float
2¹²⁰ = fin false 1 (pos 120)

abbrev 2⁻¹²⁰ : Float
2⁻¹²⁰ = fin false 1 (negsuc 119)

abbrev 2⁻¹⁵¹ : Float
2⁻¹⁵¹ = fin false 1 (negsuc 150)

-- what a threshold up to hi is at most, less nothing and over lo
record Top (lo hi : Float) : Type 0 where
  pub lo_is : T (positive lo)
  pub hi_is : T (rooted hi)
  pub less : T (rooted (hi ⊖ f0))
  pub over : T (rooted ((hi ⊖ f0) ⊘ lo))
  pub most : T (le ((hi ⊖ f0) ⊘ lo) 2¹²⁰)

large : Top 2⁻¹²⁰ f1
unfolding sub div le
large = record { lo_is = tt; hi_is = tt; less = tt; over = tt; most = tt }

middle : Top 2⁻¹⁵¹ 2⁻¹²⁰
unfolding sub div le
middle = record { lo_is = tt; hi_is = tt; less = tt; over = tt; most = tt }

small : 2⁻¹⁵¹ ⊖ f0 ≡ f0
unfolding sub
small = refl

once : T (rooted (2¹²⁰ ⊗ f1))
unfolding mul
once = tt

module _ (t : Float) (l : T (lawful_single t)) where
  abbrev above : T (positive t)
  above = lawful_positive t l

  abbrev clear : T (rooted t)
  clear = positive_rooted t above

  abbrev less : Float
  less = max_of (t ⊖ f0) f0

  under : (hi : Float) → T (rooted hi) → T (rooted (hi ⊖ f0)) → T (le t hi) → In f0 (hi ⊖ f0) less
  under hi p top h =
      let m : T (le (t ⊖ f0) (hi ⊖ f0)) = sub_mono' t hi f0 f0 clear p tt tt h (le_refl' f0 tt) (zero_le' t clear) in
      max_in (up_to (t ⊖ f0) (hi ⊖ f0) (sub_rooted t f0 clear tt (hi ⊖ f0) top (zero_le' t clear) m) top m)

  between : {lo hi : Float} → Top lo hi → T (le lo t) → T (le t hi) → In f0 2¹²⁰ (less ⊘ t)
  between {lo} {hi} b k h =
      let i = under hi b.hi_is b.less h in
      let m = div_mono less (hi ⊖ f0) t lo i.is b.less above b.lo_is i.to k in
      let r = div_rooted less t i.is above ((hi ⊖ f0) ⊘ lo) b.over m in
      up_to (less ⊘ t) 2¹²⁰ r tt (le_trans' (less ⊘ t) ((hi ⊖ f0) ⊘ lo) 2¹²⁰ r b.over tt m b.most)

  none : T (le t 2⁻¹⁵¹) → In f0 2¹²⁰ (less ⊘ t)
  none h =
      let i : In f0 f0 less = rw small at (under 2⁻¹⁵¹ tt (rw small tt) h) in
      let z : T (rooted (f0 ⊘ t)) = rw (nothing_over t above) tt in
      let j : In f0 f0 (less ⊘ t) = rw (nothing_over t above) at (div_in t above i z) in
      up_to (less ⊘ t) 2¹²⁰ j.is tt (le_trans' (less ⊘ t) f0 2¹²⁰ j.is tt tt j.to (zero_le' 2¹²⁰ tt))

  bounded : In f0 2¹²⁰ (less ⊘ t)
  bounded =
      elim (le_total' 2⁻¹²⁰ t tt clear) [
        | inl k ↦ between large k (and_r (lt f0 t) (le t f1) l)
        | inr h ↦ elim (le_total' 2⁻¹⁵¹ t tt clear) [ inl k ↦ between middle k h | inr h ↦ none h ]
      ]

  pub plain_rooted : T (rooted (less ⊘ t ⊗ f1))
  plain_rooted = (mul_in bounded (self_in f1 tt) once).is
