-- Section 4: `arbitrate_junctions` of scalefx.rs for one pixel, expression by expression, in the source's order, on the same singles
-- 0.0 and 1.0. An array is a function of its index, so that `(i + 1) & 3` reads as in the source. What differs: the sum
-- active + 2 horiz + 4 vert + 8 orient becomes a whole number where the source divides it by 15.0; `recovered` in Laws shows that
-- `decode_flags` finds that number's bits. Definitions only.
use Rattle.std.specs.Prelude.{cond, ◌&&◌, ℕ, zero, suc, ◌+◌, ℤ, pos, negsuc, Float}
use Rattle.std.specs.Int.Bits.{bit_and}
use Rattle.std.specs.Float.Ieee as Ieee
use Rattle.std.specs.Float.Ieee.{to_unsigned}
use Rattle.picture.specs.Picture.{near}
use Rattle.metric.specs.declared.Metric.{Metric}
use Rattle.metric.specs.declared.Weights.{Weights}
use Rattle.single.specs.Single.{f0, f1, f2, f4, f8, ◌⊕◌, ◌⊖◌, ◌⊗◌, max_of, min_of}
use Rattle.junction.specs.declared.Junctions.{Junctions}

-- [a, b], [a, b, c] and [a, b, c, d]
abbrev pub two : Float → Float → ℕ → Float
two a b zero = a
two a b (suc i) = b

abbrev pub three : Float → Float → Float → ℕ → Float
three a b c zero = a
three a b c (suc zero) = b
three a b c (suc (suc i)) = c

abbrev pub four : Float → Float → Float → Float → ℕ → Float
four a b c d zero = a
four a b c d (suc zero) = b
four a b c d (suc (suc zero)) = c
four a b c d (suc (suc (suc i))) = d

-- s[0], s[1], s[2], s[3]
abbrev pub weight_at : Weights → ℕ → Float
weight_at s = four s.w0 s.w1 s.w2 s.w3

-- m[0], m[1], m[2], m[3]
abbrev pub metric_at : Metric → ℕ → Float
metric_at m = four m.tl m.t m.tr m.r

abbrev pub gt : Float → Float → Float
gt a b = cond (Ieee.lt b a) f1 f0

abbrev pub lt : Float → Float → Float
lt a b = cond (Ieee.lt a b) f1 f0

abbrev pub leq : Float → Float → Float
leq a b = cond (Ieee.le a b) f1 f0

abbrev pub inv : Float → Float
inv x = f1 ⊖ x

unfoldable pub dominance : (ℕ → Float) → (ℕ → Float) → (ℕ → Float) → (ℕ → Float) → ℕ → Float
dominance a b c d =
    four
    (f2 ⊗ a 1 ⊖ (a 0 ⊕ a 2))
    (f2 ⊗ b 1 ⊖ (b 0 ⊕ b 2))
    (f2 ⊗ c 1 ⊖ (c 0 ⊕ c 2))
    (f2 ⊗ d 1 ⊖ (d 0 ⊕ d 2))

unfoldable pub junction_condition : (ℕ → Float) → (ℕ → Float) → (ℕ → Float) → Float
junction_condition diagonal orth_a orth_b =
    cond
    (Ieee.le (max_of (min_of (orth_a 0) (orth_a 1)) (min_of (orth_b 0) (orth_b 1))) (diagonal 0)
    && Ieee.le (max_of (min_of (orth_a 0) (orth_b 1)) (min_of (orth_b 0) (orth_a 1))) (diagonal 1))
    f1
    f0

-- result[i]
unfoldable pub majority_vote : (ℕ → Float) → ℕ → Float
majority_vote dom i =
    let next = dom (bit_and (i + 1) 3) in
    let prev = dom (bit_and (i + 3) 3) in
    let opposite = dom (bit_and (i + 2) 3) in
    let unopposed = leq next f0 ⊗ leq prev f0 in
    let majority = gt (dom i ⊕ opposite) (next ⊕ prev) in
    min_of (gt (dom i) f0 ⊗ (unopposed ⊕ majority)) f1

unfoldable pub inject : (ℕ → Float) → (ℕ → Float) → ℕ → Float
inject vote stren ci =
    let left = bit_and (ci + 1) 3 in
    let right = bit_and (ci + 3) 3 in
    let opposite = bit_and (ci + 2) 3 in
    min_of
    (vote ci
    ⊕ inv (vote left)
    ⊗ inv (vote right)
    ⊗ gt (stren ci) f0
    ⊗ (vote opposite ⊕ gt (stren opposite ⊕ stren ci) (stren left ⊕ stren right)))
    f1

-- end-of-line suppression: active[i] after it, of the corners as they were before it
unfoldable pub suppress : (ℕ → Float) → (ℕ → Float) → ℕ → Float
suppress prev_active adj i =
    let wrap_prev = prev_active (bit_and (i + 3) 3) in
    let wrap_next = prev_active (bit_and (i + 1) 3) in
    min_of (prev_active i ⊗ (adj i ⊕ inv (wrap_prev ⊗ wrap_next))) f1

-- active, of the weights tl t tr l c r bl b br
unfoldable pub active_of : Weights → Weights → Weights → Weights → Weights → Weights → Weights → Weights → Weights → ℕ → Float
active_of tl t tr l c r bl b br =
    let s_tl = weight_at tl in let s_t = weight_at t in let s_tr = weight_at tr in
    let s_l = weight_at l in let s_c = weight_at c in let s_r = weight_at r in
    let s_bl = weight_at bl in let s_b = weight_at b in let s_br = weight_at br in
    let jstr0 = four (s_tl 2) (s_t 3) (s_c 0) (s_l 1) in
    let jdom0 =
    dominance
    (three (s_tl 1) (s_tl 2) (s_tl 3))
    (three (s_t 2) (s_t 3) (s_t 0))
    (three (s_c 3) (s_c 0) (s_c 1))
    (three (s_l 0) (s_l 1) (s_l 2)) in
    let jstr1 = four (s_t 2) (s_tr 3) (s_r 0) (s_c 1) in
    let jdom1 =
    dominance
    (three (s_t 1) (s_t 2) (s_t 3))
    (three (s_tr 2) (s_tr 3) (s_tr 0))
    (three (s_r 3) (s_r 0) (s_r 1))
    (three (s_c 0) (s_c 1) (s_c 2)) in
    let jstr2 = four (s_c 2) (s_r 3) (s_br 0) (s_b 1) in
    let jdom2 =
    dominance
    (three (s_c 1) (s_c 2) (s_c 3))
    (three (s_r 2) (s_r 3) (s_r 0))
    (three (s_br 3) (s_br 0) (s_br 1))
    (three (s_b 0) (s_b 1) (s_b 2)) in
    let jstr3 = four (s_l 2) (s_c 3) (s_b 0) (s_bl 1) in
    let jdom3 =
    dominance
    (three (s_l 1) (s_l 2) (s_l 3))
    (three (s_c 2) (s_c 3) (s_c 0))
    (three (s_b 3) (s_b 0) (s_b 1))
    (three (s_bl 0) (s_bl 1) (s_bl 2)) in
    let v0 = majority_vote jdom0 in
    let v1 = majority_vote jdom1 in
    let v2 = majority_vote jdom2 in
    let v3 = majority_vote jdom3 in
    let active = four (inject v0 jstr0 2) (inject v1 jstr1 3) (inject v2 jstr2 0) (inject v3 jstr3 1) in
    let adj = four (v0 2) (v1 3) (v2 0) (v3 1) in
    suppress active adj

-- packed[i], before its division by 15.0
unfoldable pub packed : Float → Float → Float → Float → Float → Float → Float
packed active jcond h_edge v_edge h_extra v_extra =
    let orient = gt (h_edge ⊕ h_extra) (v_edge ⊕ v_extra) in
    let horiz = lt h_edge v_edge ⊗ jcond in
    let vert = gt h_edge v_edge ⊗ jcond in
    active ⊕ f2 ⊗ horiz ⊕ f4 ⊗ vert ⊕ f8 ⊗ orient

-- edge classification: packed, of the metrics tl t l c r bl b br and of active
unfoldable pub packed_of : Metric → Metric → Metric → Metric → Metric → Metric → Metric → Metric → (ℕ → Float) → ℕ → Float
packed_of tl t l c r bl b br active i =
    let m_tl = metric_at tl in let m_t = metric_at t in let m_l = metric_at l in let m_c = metric_at c in
    let m_r = metric_at r in let m_bl = metric_at bl in let m_b = metric_at b in let m_br = metric_at br in
    let jcond =
    four
    (junction_condition (two (m_l 2) (m_c 0)) (two (m_l 3) (m_c 1)) (two (m_tl 3) (m_l 1)))
    (junction_condition (two (m_r 0) (m_c 2)) (two (m_c 3) (m_c 1)) (two (m_t 3) (m_r 1)))
    (junction_condition (two (m_b 2) (m_br 0)) (two (m_c 3) (m_b 1)) (two (m_b 3) (m_br 1)))
    (junction_condition (two (m_b 0) (m_bl 2)) (two (m_l 3) (m_b 1)) (two (m_bl 3) (m_bl 1))) in
    let h_edge = four (min_of (m_l 3) (m_tl 3)) (min_of (m_c 3) (m_t 3)) (min_of (m_c 3) (m_b 3)) (min_of (m_l 3) (m_bl 3)) in
    let v_edge = four (min_of (m_c 1) (m_l 1)) (min_of (m_c 1) (m_r 1)) (min_of (m_b 1) (m_br 1)) (min_of (m_b 1) (m_bl 1)) in
    let h_extra = four (m_l 3) (m_c 3) (m_c 3) (m_l 3) in
    let v_extra = four (m_c 1) (m_c 1) (m_b 1) (m_b 1) in
    packed (active i) (jcond i) (h_edge i) (v_edge i) (h_extra i) (v_extra i)

-- Section 4's junction number n = active + 2 horizontal + 4 vertical + 8 orientation: that sum as a whole number
abbrev pub number : Float → ℕ
number = to_unsigned 8

-- metrics tl t l c r bl b br; weights tl t tr l c r bl b br
unfoldable pub arbitrate_junctions : Metric → Metric → Metric → Metric → Metric → Metric → Metric → Metric
    → Weights → Weights → Weights → Weights → Weights → Weights → Weights → Weights → Weights → Junctions
arbitrate_junctions m_tl m_t m_l m_c m_r m_bl m_b m_br s_tl s_t s_tr s_l s_c s_r s_bl s_b s_br =
    let active = active_of s_tl s_t s_tr s_l s_c s_r s_bl s_b s_br in
    let p = packed_of m_tl m_t m_l m_c m_r m_bl m_b m_br active in
    record { n0 = number (p 0); n1 = number (p 1); n2 = number (p 2); n3 = number (p 3) }

-- an offset of -1, 0 or 1
abbrev pub -1 : ℤ
-1 = negsuc 0

abbrev pub +0 : ℤ
+0 = pos 0

abbrev pub +1 : ℤ
+1 = pos 1

-- the junctions of the pixel (x, y), from the fields of metrics and weights, whose records are read at clamped positions
unfoldable pub junctions : ℕ → ℕ → (ℕ → ℕ → Metric) → (ℕ → ℕ → Weights) → ℕ → ℕ → Junctions
junctions w h metrics weights x y =
    let metric = near w h metrics x y in
    let weight = near w h weights x y in
    let m_tl = metric -1 -1 in let m_t = metric +0 -1 in
    let m_l = metric -1 +0 in let m_c = metric +0 +0 in let m_r = metric +1 +0 in
    let m_bl = metric -1 +1 in let m_b = metric +0 +1 in let m_br = metric +1 +1 in
    let s_tl = weight -1 -1 in let s_t = weight +0 -1 in let s_tr = weight +1 -1 in
    let s_l = weight -1 +0 in let s_c = weight +0 +0 in let s_r = weight +1 +0 in
    let s_bl = weight -1 +1 in let s_b = weight +0 +1 in let s_br = weight +1 +1 in
    arbitrate_junctions m_tl m_t m_l m_c m_r m_bl m_b m_br s_tl s_t s_tr s_l s_c s_r s_bl s_b s_br
