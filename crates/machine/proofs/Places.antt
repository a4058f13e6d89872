-- Where blocks and their words lie: a block's number against its column and row, and the output's index of a word, which is bounded, tells
-- the block and the word, and meets every index. Assumes nothing.
use mathlib.Core.Path.{◌≡◌, sym, ap, ap₂, ◌∙◌, subst}
use mathlib.Core.List.{List}
use Prim.Native.Nat.{ℕ, zero, suc, ◌+◌, ◌*◌, ◌/◌, ◌%◌, ◌≤◌, ◌<◌}
use native.Mathlib.Nat.{mod-lt, div-lt_iff_lt-mul, div-add-mod, div-add-mod', zero-mul, not-suc-le-zero, zero-lt-suc, mul-le-mul, mul-le-mul_right}
use native.Mathlib.Omega.{arith}
use lib.Arith.{digits_lt, digits_div, digits_mod}
use lib.ListN.{take}
use lib.Seq.{get_or-take}
use Rattle.picture.specs.Picture.{words}

-- ---- two digits

pub digits_same : (q q' m r r' : ℕ) → r < m → r' < m → q * m + r ≡ q' * m + r' → (q ≡ q') × (r ≡ r')
digits_same q q' m r r' l l' e =
    (sym (digits_div q l) ∙ ap (λ (x : ℕ). x / m) e ∙ digits_div q' l', sym (digits_mod q l) ∙ ap (λ (x : ℕ). x % m) e ∙ digits_mod q' l')

pub left_pos : (w h : ℕ) {b : ℕ} → b < w * h → 0 < w
left_pos zero h {b} l = absurd (not-suc-le-zero (subst (λ (x : ℕ). b < x) (zero-mul h) l))
left_pos (suc w) h l = zero-lt-suc w

-- ---- block b of a picture w wide

module _ (w h b : ℕ) (l : b < w * h) where
  pub column_lt : b % w < w
  column_lt = mod-lt b (left_pos w h l)

  pub row_lt : b / w < h
  row_lt = (div-lt_iff_lt-mul (left_pos w h l)).1 (omega arith)

pub block_same : (w b b' : ℕ) → b % w ≡ b' % w → b / w ≡ b' / w → b ≡ b'
block_same w b b' e f = cc (div-add-mod' b w, div-add-mod' b' w)

pub block_lt : {w h column row : ℕ} → column < w → row < h → row * w + column < w * h
block_lt {w} {h} {column} {row} c r = omega (arith, digits_lt r c)

-- row y of the picture's marks ends within them
pub row_end : (w h y : ℕ) → y < h → y * w + w ≤ w * h
row_end w h y l = omega (arith, mul-le-mul_right w l)

-- a picture's words stand in the front of a buffer
pub front : {w h x y : ℕ} (p : List ℕ) → x < w → y < h → words w p x y ≡ words w (take (w * h) p) x y
front {w} {h} {x} {y} p l m = sym (get_or-take (w * h) p (y * w + x) 0 (block_lt l m))

-- the blocks of a picture of at most 2,048 a side are a small number
pub area : (w h : ℕ) → w ≤ 2048 → h ≤ 2048 → w * h ≤ 4194304
area w h a b = omega (arith, mul-le-mul a b)

-- ---- word k of block (bx, by), blocks being N by N words

abbrev pub spot : ℕ → ℕ → ℕ → ℕ → ℕ → ℕ
spot N w bx by k = (N * by + k / N) * (N * w) + (N * bx + k % N)

module _ (N w : ℕ) (pos : 0 < N) where
  word_row : (k : ℕ) → k < N * N → k / N < N
  word_row k l = (div-lt_iff_lt-mul pos).1 l

  pub spot_lt : (h bx by k : ℕ) → bx < w → by < h → k < N * N → spot N w bx by k < N * N * (w * h)
  spot_lt h bx by k x y l =
      let a : N * by + k / N < N * h = omega (arith, digits_lt y (word_row k l)) in
      let c : N * bx + k % N < N * w = omega (arith, digits_lt x (mod-lt k pos)) in
      omega (arith, digits_lt a c)

  pub spot_same : (bx by k bx' by' k' : ℕ) → bx < w → bx' < w → k < N * N → k' < N * N → spot N w bx by k ≡ spot N w bx' by' k'
      → (bx ≡ bx') × (by ≡ by') × (k ≡ k')
  spot_same bx by k bx' by' k' x x' l l' e =
      let c : N * bx + k % N < N * w = omega (arith, digits_lt x (mod-lt k pos)) in
      let c' : N * bx' + k' % N < N * w = omega (arith, digits_lt x' (mod-lt k' pos)) in
      let o = digits_same (N * by + k / N) (N * by' + k' / N) (N * w) (N * bx + k % N) (N * bx' + k' % N) c c' e in
      let r = digits_same by by' N (k / N) (k' / N) (word_row k l) (word_row k' l') (omega (arith, o.0)) in
      let q = digits_same bx bx' N (k % N) (k' % N) (mod-lt k pos) (mod-lt k' pos) (omega (arith, o.1)) in
      (q.0, r.0, block_same N k k' q.1 r.1)

  -- each index of the output is a word of a block
  pub spot_onto : (h i : ℕ) → i < N * N * (w * h)
      → (b : ℕ) × (k : ℕ) × (b < w * h) × (k < N * N) × (spot N w (b % w) (b / w) k ≡ i)
  spot_onto h i l =
      let wide : i < N * w * (N * h) = omega arith in
      let wp : 0 < N * w = left_pos (N * w) (N * h) wide in
      let q : ℕ = i / (N * w) in
      let r : ℕ = i % (N * w) in
      let ql : q < N * h = (div-lt_iff_lt-mul wp).1 (omega arith) in
      let rl : r < N * w = mod-lt i wp in
      let y : q / N < h = (div-lt_iff_lt-mul pos).1 (omega arith) in
      let x : r / N < w = (div-lt_iff_lt-mul pos).1 (omega arith) in
      let b : ℕ = q / N * w + r / N in
      let k : ℕ = q % N * N + r % N in
      let kl : k < N * N = digits_lt (mod-lt q pos) (mod-lt r pos) in
      let bc : b % w ≡ r / N = digits_mod (q / N) x in
      let br : b / w ≡ q / N = digits_div (q / N) x in
      let kc : k % N ≡ r % N = digits_mod (q % N) (mod-lt r pos) in
      let kr : k / N ≡ q % N = digits_div (q % N) (mod-lt r pos) in (
        b,
        k,
        block_lt x y,
        kl,
        ap₂ (λ (s t : ℕ). s * (N * w) + t)
            (ap₂ (λ (s t : ℕ). N * s + t) br kr ∙ div-add-mod q N)
            (ap₂ (λ (s t : ℕ). N * s + t) bc kc ∙ div-add-mod r N)
            ∙ div-add-mod' i (N * w),
      )
