-- The corner weight of an edge distance and two primary distances from 0 to 1: each of its factors lies from 0 to 1, and none is -0.
-- The secondary distances only choose a sign, so nothing is asked of them. Assumes nothing.
use mathlib.Core.Path.{◌≡◌, refl, sym, ap, ◌∙◌}
use mathlib.Core.Logic.{◌⊎◌, inl, inr}
use Prim.Native.Nat.{◌*◌, ◌≤◌, ◌<◌}
use mathlib.Core.Bool.{Bool, true, false, not, ◌&&◌, cond}
use lib.Dec.{T, ltb, ltb→lt, nltb→le}
use lib.Ieee.{Float, binary32, neg, sub, add, mul, le, lt, fits}
use lib.Ieee.Fits.{and_r, cond-fits, sub-fits, mul-fits}
use lib.Ieee.Positive.{num, den, positive}
use Rattle.single.specs.Single.{f0, f½, f1, f2, ◌⊕◌, ◌⊖◌, ◌⊗◌, ◌⊘◌, max_of, min_of, clamp_of}
use Rattle.single.specs.Root.{rooted}
use Rattle.clarity.specs.declared.Clarity.{Clarity}
use Rattle.clarity.specs.declared.Clarity.TheVariants.{Standard, Threshold, Gated}
use Rattle.clarity.specs.Clarity.{threshold_of, lawful_of}
use Rattle.weight.specs.Weight.{weight_at, corner_weight_of}
use Rattle.nonneg.proofs.Nonneg.{shape, In, →le, nlt→le, le_refl', le_trans', le_total', zero_le', up_to, widen, sub_mono'}
use Rattle.nonneg.proofs.Nonneg.{sub_rooted, sub_swap, add_in, mul_in, div_in, zero_mul', max_in, twice}
use Rattle.metric.proofs.Under.{sub_under}
use Rattle.clarity.proofs.Thresholds.{lawful_positive, positive_rooted, lawful_threshold}
use Rattle.weight.proofs.Threshold.{less_nothing, over_itself, nothing_over}

abbrev In01 : Float → Type 0
In01 x = In f0 f1 x

zero_in : (hi : Float) → T (rooted hi) → In f0 hi f0
zero_in hi p = up_to f0 hi tt p (zero_le' hi p)

one_in : In01 f1
one_in = up_to f1 f1 tt tt (le_refl' f1 tt)

-- ---- differences
one_less : f1 ⊖ f0 ≡ f1
unfolding sub
one_less = refl

diff_in : (x y : Float) → In01 x → In01 y → T (le y x) → In01 (x ⊖ y)
diff_in x y i j l =
    let h : T (le (x ⊖ y) f1) = rw one_less at (sub_mono' x f1 y f0 i.is tt j.is tt i.to j.from l) in
    up_to (x ⊖ y) f1 (sub_rooted x y i.is j.is f1 tt l h) tt h

-- x - y, by its size and its sign
record Signed (s : Float) : Type 0 where
  pub size : Float
  pub unit : In01 size
  pub held : T (fits binary32 size)
  pub is : (s ≡ size) ⊎ (s ≡ neg size)

difference : (x y : Float) → In01 x → In01 y → Signed (x ⊖ y)
difference x y i j =
    elim (le_total' y x j.is i.is) [
      | inl h ↦ record { size = x ⊖ y; unit = diff_in x y i j h; held = sub-fits binary32 x y; is = inl refl }
      | inr h ↦
          elim (sub_swap y x j.is i.is h) [
            | inl e ↦ record { size = y ⊖ x; unit = diff_in y x j i h; held = sub-fits binary32 y x; is = inr e }
            | inr e ↦ record { size = y ⊖ x; unit = diff_in y x j i h; held = sub-fits binary32 y x; is = inl (e.0 ∙ sym e.1) }
          ]
    ]

turned : {s : Float} (t : Bool) → Signed s → Signed (cond t s (neg s))
turned true b = b
turned false b =
    record {
      size = b.size;
      unit = b.unit;
      held = b.held;
      is = elim b.is [ inl e ↦ inr (ap neg e) | inr e ↦ inl (ap neg e ∙ twice b.size) ];
    }

-- ---- a threshold above 0 and at most 1, as the machine holds it
pub record Bound (t : Float) : Type 0 where
  pub is : T (positive t)
  pub unit : In01 t
  pub held : T (fits binary32 t)

pub bound : (q : Clarity) → T (fits binary32 (threshold_of q)) → T (lawful_of q) → Bound (threshold_of q)
bound q f h =
    let t = threshold_of q in
    let l = lawful_threshold q h in
    let p = lawful_positive t l in
    record { is = p; unit = up_to t f1 (positive_rooted t p) tt (and_r (lt f0 t) (le t f1) l); held = f }

-- ---- proximity: (threshold - edge_dist).max(0.0) / threshold
module _ (t : Float) (b : Bound t) where
  abbrev t_is : T (rooted t)
  t_is = b.unit.is

  -- nothing is left of an edge distance of the threshold or more
  pub far_is : (e : Float) → In01 e → T (le t e) → max_of (t ⊖ e) f0 ≡ f0
  unfolding max_of
  far_is e i h = elim (sub_swap e t i.is t_is h) [ inl u ↦ rw (u, not_above (e ⊖ t) (diff_in e t i b.unit h).is) | inr u ↦ rw (u.0, zero_not_above) ]
    where
      not_above : (d : Float) → T (rooted d) → lt f0 (neg d) ≡ false
      not_above = shape (λ (d : Float). lt f0 (neg d) ≡ false) (λ m e. unfold neg lt in refl)

      zero_not_above : lt f0 f0 ≡ false
      zero_not_above = unfold lt in refl

  -- less an edge distance up to it, it is no more than itself
  near_in : (e : Float) → T (rooted e) → T (le e t) → In f0 t (t ⊖ e)
  near_in e p h =
      let more : T (le (t ⊖ e) (t ⊖ f0)) = sub_mono' t t e f0 t_is t_is p tt (le_refl' t t_is) (zero_le' e p) h in
      let top : T (rooted (t ⊖ f0)) = sub_rooted t f0 t_is tt t t_is (zero_le' t t_is) (less_nothing t b.held t_is) in
      let is : T (rooted (t ⊖ e)) = sub_rooted t e t_is p (t ⊖ f0) top h more in
      up_to (t ⊖ e) t is t_is (le_trans' (t ⊖ e) (t ⊖ f0) t is top t_is more (less_nothing t b.held t_is))

  pub proximity_in : (e : Float) → In01 e → In01 (max_of (t ⊖ e) f0 ⊘ t)
  proximity_in e i =
      let left : In f0 t (max_of (t ⊖ e) f0) = elim (le_total' e t i.is t_is) [ inl h ↦ max_in (near_in e i.is h) | inr h ↦ rw (far_is e i h) (zero_in t t_is) ] in
      rw (nothing_over t b.is, over_itself t b.is) at (div_in t b.is left (rw (over_itself t b.is) tt))

-- ---- direction: (1.0 - edge_dist + stronger_axis).clamp(0.0, 1.0)
two_rooted : T (rooted (f1 ⊕ f1))
unfolding add
two_rooted = tt

clamp_in : (d : Float) → T (rooted d) → In01 (clamp_of d f0 f1)
unfolding clamp_of
clamp_in d p = one_of (lt d f0) (zero_in f1 tt) (go (lt f1 d) refl)
  where
    one_of : {x y : Float} (t : Bool) → In01 x → In01 y → In01 (cond t x y)
    one_of true i j = i
    one_of false i j = j

    go : (t : Bool) → lt f1 d ≡ t → In01 (cond t f1 d)
    go true e = one_in
    go false e = up_to d f1 p tt (nlt→le f1 d tt p e)

clamp_below : (d : Float) → lt d f0 ≡ true → clamp_of d f0 f1 ≡ f0
unfolding clamp_of
clamp_below d e = rw e

add_neg : (x y : Float) → x ⊕ neg y ≡ x ⊖ y
unfolding sub
add_neg x y = refl

direction_in : (u s : Float) → In01 u → T (fits binary32 u) → Signed s → In01 (clamp_of (u ⊕ s) f0 f1)
direction_in u s i f b =
    elim b.is [
      | inl e ↦ rw e (clamp_in (u ⊕ z) (add_in i b.unit two_rooted).is)
      | inr e ↦ rw (e, add_neg u z) (go (ltb (num u * den z) (num z * den u)) (ltb→lt (num u * den z) (num z * den u)) (nltb→le (num u * den z) (num z * den u)))
    ]
  where
    z : Float
    z = b.size

    go : (t : Bool) → (T t → num u * den z < num z * den u) → (T (not t) → num z * den u ≤ num u * den z) → In01 (clamp_of (u ⊖ z) f0 f1)
    go true h k = rw (clamp_below (u ⊖ z) (sub_under u z i.is b.unit.is f b.held (h tt))) (zero_in f1 tt)
    go false h k = clamp_in (u ⊖ z) (diff_in u z i b.unit (→le z u b.unit.is i.is (k tt))).is

-- ---- the product
product_ends : T (rooted f0 && rooted f1 && le f0 (f0 ⊗ f0) && le (f1 ⊗ f1) f1)
unfolding mul le
product_ends = tt

product_top : T (rooted (f1 ⊗ f1))
unfolding mul
product_top = tt

product_in : {x y : Float} → In01 x → In01 y → In01 (x ⊗ y)
product_in i j = widen f0 f1 product_ends (mul_in i j product_top)

-- ---- the weight
zero_fits : T (fits binary32 f0)
unfolding fits
zero_fits = tt

module _ (e p0 p1 s0 s1 : Float) (i : In01 e) (j : In01 p0) (k : In01 p1) where
  abbrev first : Bool
  first = lt (min_of p1 s1 ⊕ p1) (min_of p0 s0 ⊕ p0)

  abbrev direction : Float
  direction = clamp_of (f1 ⊖ e ⊕ cond first (p0 ⊖ p1) (neg (p0 ⊖ p1))) f0 f1

  toward : In01 direction
  toward = direction_in (f1 ⊖ e) _ (diff_in f1 e one_in i i.to) (sub-fits binary32 f1 e) (turned first (difference p0 p1 j k))

  -- at a threshold
  module _ (t : Float) where
    at_fits : T (fits binary32 (weight_at t e p0 p1 s0 s1))
    unfolding weight_at
    at_fits = mul-fits binary32 (max_of (t ⊖ e) f0 ⊘ t ⊗ direction ⊗ p0) p1

    at_in : Bound t → In01 (weight_at t e p0 p1 s0 s1)
    unfolding weight_at
    at_in b = product_in (product_in (product_in (proximity_in t b e i) toward) j) k

    at_far : Bound t → T (le t e) → weight_at t e p0 p1 s0 s1 ≡ f0
    unfolding weight_at
    at_far b h = rw (far_is t b e i h, nothing_over t b.is, zero_mul' direction toward.is, zero_mul' p0 j.is) (zero_mul' p1 k.is)

  -- at a setting: behind a gate it is that or 0
  either_in : {x : Float} (o : Bool) → In01 x → In01 (cond o x f0)
  either_in true u = u
  either_in false u = zero_in f1 tt

  either_none : (o : Bool) → cond o f0 f0 ≡ f0
  either_none true = refl
  either_none false = refl

  pub weight_fits : (q : Clarity) → T (fits binary32 (corner_weight_of q e p0 p1 s0 s1))
  unfolding corner_weight_of
  weight_fits Standard = at_fits f½
  weight_fits (Threshold t) = at_fits t
  weight_fits (Gated t) = cond-fits binary32 (lt (f2 ⊗ e) (p0 ⊕ p1)) _ f0 (at_fits t) zero_fits

  pub weight_in : (q : Clarity) → Bound (threshold_of q) → In01 (corner_weight_of q e p0 p1 s0 s1)
  unfolding corner_weight_of
  weight_in Standard b = at_in f½ b
  weight_in (Threshold t) b = at_in t b
  weight_in (Gated t) b = either_in (lt (f2 ⊗ e) (p0 ⊕ p1)) (at_in t b)

  pub weight_far : (q : Clarity) → Bound (threshold_of q) → T (le (threshold_of q) e) → corner_weight_of q e p0 p1 s0 s1 ≡ f0
  unfolding corner_weight_of
  weight_far Standard b h = at_far f½ b h
  weight_far (Threshold t) b h = at_far t b h
  weight_far (Gated t) b h = rw (at_far t b h) (either_none (lt (f2 ⊗ e) (p0 ⊕ p1)))
