-- What the moves of bytes do to a word of four bytes, and bitwise and, or and xor to a word of flags. Assumes nothing.
use mathlib.Core.Path.{◌≡◌, refl, sym, ◌∙◌, ap}
use mathlib.Core.Bool.{Bool, true, false, not, cond, ◌&&◌, ◌||◌}
use Prim.Native.Nat.{ℕ, zero, suc, ◌+◌, ◌*◌, ◌-◌, ◌/◌, ◌%◌, ◌<◌, ◌≤◌, ◌^◌}
use native.Mathlib.Nat.{mod-mod, mod-eq_of_lt, mul-le-mul_right, mul-div_cancel, add-mul}
use native.Mathlib.Omega.{arith}
use lib.Dec.{eqb}
use lib.Pow.{pow_pos}
use lib.Bits.{bit_and, bit_or, bit_xor, and_block, or_block, xor_block, and_mod, or_mod, xor_mod, and_mask, and_shr, and_zero_r, or_zero_r}
use Rattle.lanes.specs.Lanes.{lanes, ones, across, down, opposite, beside, above, own, after, choose}

-- the four bytes of a word
pub byte0 : (a b c d : ℕ) → lanes a b c d % 256 ≡ a % 256
unfolding lanes
byte0 a b c d = omega arith

pub byte1 : (a b c d : ℕ) → lanes a b c d / 256 % 256 ≡ b % 256
unfolding lanes
byte1 a b c d = omega arith

pub byte2 : (a b c d : ℕ) → lanes a b c d / 65536 % 256 ≡ c % 256
unfolding lanes
byte2 a b c d = omega arith

pub byte3 : (a b c d : ℕ) → lanes a b c d / 16777216 ≡ d % 256
unfolding lanes
byte3 a b c d = omega arith

pub made : (a b c d : ℕ) → a % 256 + b % 256 * 256 + c % 256 * 65536 + d % 256 * 16777216 ≡ lanes a b c d
unfolding lanes
made a b c d = omega arith

pub down_lanes : (a b c d : ℕ) → down (lanes a b c d) ≡ lanes d c b a
unfolding down
down_lanes a b c d = rw (byte0, byte1, byte2, byte3) (made d c b a)

pub opposite_lanes : (a b c d : ℕ) → opposite (lanes a b c d) ≡ lanes c d a b
unfolding opposite lanes
opposite_lanes a b c d = omega arith

pub beside_lanes : (a b c d a' b' c' d' : ℕ) → beside (lanes a b c d) (lanes a' b' c' d') ≡ lanes a b' c' d
unfolding beside lanes
beside_lanes a b c d a' b' c' d' = omega arith

pub above_lanes : (a b c d a' b' c' d' : ℕ) → above (lanes a b c d) (lanes a' b' c' d') ≡ lanes a b c' d'
unfolding above lanes
above_lanes a b c d a' b' c' d' = omega arith

-- the bytes, each one place down
turned : (a b c d : ℕ) → lanes a b c d / 256 + lanes a b c d % 256 * 16777216 ≡ lanes b c d a
unfolding lanes
turned a b c d = omega arith

pub own_lanes : (a b c d a' b' c' d' : ℕ) → own (lanes a b c d) (lanes a' b' c' d') ≡ lanes a b' c d'
unfolding own
own_lanes a b c d a' b' c' d' = rw (byte0 a b c d, byte1 a' b' c' d', byte2 a b c d, byte3 a' b' c' d') (made a b' c d')

pub after_lanes : (a b c d a' b' c' d' : ℕ) → after (lanes a b c d) (lanes a' b' c' d') ≡ lanes b c' d a'
unfolding after
after_lanes a b c d a' b' c' d' = rw (own_lanes a' b' c' d' a b c d) (turned a' b c' d)

-- a bitwise operation acts on each byte
module _ (f : ℕ → ℕ → ℕ)
    (block : (k a b r s : ℕ) → r < 2 ^ k → s < 2 ^ k → f (a * 2 ^ k + r) (b * 2 ^ k + s) ≡ f a b * 2 ^ k + f r s)
    (mods : (a b k : ℕ) → f a b % 2 ^ k ≡ f (a % 2 ^ k) (b % 2 ^ k)) where
  pub bytewise : (a b c d a' b' c' d' : ℕ) → f (lanes a b c d) (lanes a' b' c' d') ≡ lanes (f a a') (f b b') (f c c') (f d d')
  unfolding lanes
  bytewise a b c d a' b' c' d' =
      let lt : (n : ℕ) → n % 256 < 2 ^ 8 = λ n. omega arith in
      let e : (n n' : ℕ) → f (n % 256) (n' % 256) ≡ f n n' % 256 = λ n n'. sym (mods n n' 8) in
      block 8 ((d % 256 * 256 + c % 256) * 256 + b % 256) ((d' % 256 * 256 + c' % 256) * 256 + b' % 256) (a % 256) (a' % 256) (lt a) (lt a')
      ∙ rw (block 8 (d % 256 * 256 + c % 256) (d' % 256 * 256 + c' % 256) (b % 256) (b' % 256) (lt b) (lt b'))
      (rw (block 8 (d % 256) (d' % 256) (c % 256) (c' % 256) (lt c) (lt c')) (rw (e a a', e b b', e c c', e d d')))

shifted : (a b c d : ℕ) → lanes a b c d / 256 ≡ lanes b c d 0
unfolding lanes
shifted a b c d = omega arith

raised : (a c : ℕ) → lanes a 0 c 0 * 256 ≡ lanes 0 a 0 c
unfolding lanes
raised a c = omega arith

even : 0x00ff00ff ≡ lanes 255 0 255 0
unfolding lanes
even = refl

reduced : (a b c d : ℕ) → lanes (a % 256) (b % 256) (c % 256) (d % 256) ≡ lanes a b c d
unfolding lanes
reduced a b c d = rw (mod-mod a 256, mod-mod b 256, mod-mod c 256, mod-mod d 256)

pub across_lanes : (a b c d : ℕ) → across (lanes a b c d) ≡ lanes b a d c
unfolding across
across_lanes a b c d =
    rw (shifted a b c d, even, bytewise bit_and and_block and_mod b c d 0 255 0 255 0, bytewise bit_and and_block and_mod a b c d 255 0 255 0)
    (rw (and_mask a 8, and_mask b 8, and_mask c 8, and_mask d 8, and_zero_r b, and_zero_r c, and_zero_r d, raised)
    (bytewise bit_or or_block or_mod (b % 256) 0 (d % 256) 0 0 (a % 256) 0 (c % 256) ∙ rw (or_zero_r (b % 256), or_zero_r (d % 256)) (reduced b a d c)))

pub ones_lanes : ones ≡ lanes 1 1 1 1
unfolding lanes
ones_lanes = refl

-- a flag as a number; a word of flags is `lanes (num p) (num q) (num r) (num s)`
unfoldable pub num : Bool → ℕ
num t = cond t 1 0

num_le : (t : Bool) → num t ≤ 1
unfolding num
num_le true = omega arith
num_le false = omega arith

num_and : (p q : Bool) → bit_and (num p) (num q) ≡ num (p && q)
unfolding num
num_and true true = refl
num_and true false = refl
num_and false q = refl

num_or : (p q : Bool) → bit_or (num p) (num q) ≡ num (p || q)
unfolding num
num_or true true = refl
num_or true false = refl
num_or false q = refl

num_not : (p : Bool) → bit_xor (num p) 1 ≡ num (not p)
unfolding num
num_not true = refl
num_not false = refl

module _ (p q r s p' q' r' s' : Bool) where
  pub and_flags : bit_and (lanes (num p) (num q) (num r) (num s)) (lanes (num p') (num q') (num r') (num s'))
      ≡ lanes (num (p && p')) (num (q && q')) (num (r && r')) (num (s && s'))
  and_flags =
      bytewise bit_and and_block and_mod (num p) (num q) (num r) (num s) (num p') (num q') (num r') (num s')
      ∙ rw (num_and p p', num_and q q', num_and r r', num_and s s')

  pub or_flags : bit_or (lanes (num p) (num q) (num r) (num s)) (lanes (num p') (num q') (num r') (num s'))
      ≡ lanes (num (p || p')) (num (q || q')) (num (r || r')) (num (s || s'))
  or_flags =
      bytewise bit_or or_block or_mod (num p) (num q) (num r) (num s) (num p') (num q') (num r') (num s')
      ∙ rw (num_or p p', num_or q q', num_or r r', num_or s s')

pub not_flags : (p q r s : Bool) → bit_xor (lanes (num p) (num q) (num r) (num s)) ones ≡ lanes (num (not p)) (num (not q)) (num (not r)) (num (not s))
unfolding lanes
not_flags p q r s = bytewise bit_xor xor_block xor_mod (num p) (num q) (num r) (num s) 1 1 1 1 ∙ rw (num_not p, num_not q, num_not r, num_not s)

-- one bit of each byte
pub num_odd : (n : ℕ) → num (eqb (n % 2) 1) ≡ n % 2
unfolding num
num_odd n = go (n % 2) (omega arith)
  where
    go : (r : ℕ) → r < 2 → cond {A = ℕ} (eqb r 1) 1 0 ≡ r
    go zero h = refl
    go (suc zero) h = refl
    go (suc (suc r)) h = omega arith

-- four flags, each n times
times : (n a b c d : ℕ) → n < 256 → a ≤ 1 → b ≤ 1 → c ≤ 1 → d ≤ 1 → lanes a b c d * n ≡ lanes (a * n) (b * n) (c * n) (d * n)
unfolding lanes
times n a b c d h ha hb hc hd =
    let s : (m : ℕ) → m ≤ 1 → m % 256 ≡ m = λ m e. omega arith in
    let t : (m : ℕ) → m ≤ 1 → m * n % 256 ≡ m * n = λ m e. mod-eq_of_lt (omega (arith, mul-le-mul_right n e)) in
    rw (s a ha, s b hb, s c hc, s d hd, t a ha, t b hb, t c hc, t d hd) (simp (add-mul) (omega arith))

module _ (k mask : ℕ) (filled : mask ≡ lanes (2 ^ k) (2 ^ k) (2 ^ k) (2 ^ k)) (ends : ones ≡ mask / 2 ^ k)
    (one : (n : ℕ) → bit_and n (2 ^ k) ≡ n / 2 ^ k % 2 * 2 ^ k)
    (small : 2 ^ k < 256) where
  pub flags : (a b c d : ℕ) → bit_and (lanes a b c d / 2 ^ k) ones
      ≡ lanes (num (eqb (a / 2 ^ k % 2) 1)) (num (eqb (b / 2 ^ k % 2) 1)) (num (eqb (c / 2 ^ k % 2) 1)) (num (eqb (d / 2 ^ k % 2) 1))
  flags a b c d =
      let odd : (n : ℕ) → n % 2 ≤ 1 = λ n. omega arith in
      let x = lanes (a / 2 ^ k % 2) (b / 2 ^ k % 2) (c / 2 ^ k % 2) (d / 2 ^ k % 2) in
      ap (λ (m : ℕ). bit_and (lanes a b c d / 2 ^ k) m) ends
      ∙ sym (and_shr (lanes a b c d) mask k)
      ∙ ap (λ (m : ℕ). bit_and (lanes a b c d) m / 2 ^ k) filled
      ∙ ap (λ (m : ℕ). m / 2 ^ k) (bytewise bit_and and_block and_mod a b c d (2 ^ k) (2 ^ k) (2 ^ k) (2 ^ k))
      ∙ rw (one a, one b, one c, one d)
      (ap (λ (m : ℕ). m / 2 ^ k)
      (sym (times (2 ^ k) (a / 2 ^ k % 2) (b / 2 ^ k % 2) (c / 2 ^ k % 2) (d / 2 ^ k % 2) small
      (odd (a / 2 ^ k)) (odd (b / 2 ^ k)) (odd (c / 2 ^ k)) (odd (d / 2 ^ k))))
      ∙ mul-div_cancel x (pow_pos k)
      ∙ rw (num_odd (a / 2 ^ k), num_odd (b / 2 ^ k), num_odd (c / 2 ^ k), num_odd (d / 2 ^ k)))

-- a choice in each byte
and_true : (p : Bool) → p && true ≡ p
and_true true = refl
and_true false = refl

ones_flags : ones ≡ lanes (num true) (num true) (num true) (num true)
unfolding lanes num
ones_flags = refl

other : (a b c d : ℕ) → 0xffffffff - lanes a b c d ≡ lanes (255 - a % 256) (255 - b % 256) (255 - c % 256) (255 - d % 256)
unfolding lanes
other a b c d =
    let t : (n : ℕ) → (255 - n % 256) % 256 ≡ 255 - n % 256 = λ n. mod-eq_of_lt (omega arith) in
    rw (t a, t b, t c, t d) (omega arith)

either : (t : Bool) (a b : ℕ) → bit_or (bit_and a (num t * 255)) (bit_and b (255 - num t * 255 % 256)) ≡ cond t a b % 256
unfolding num
either true a b = rw (and_mask a 8, and_zero_r b, or_zero_r)
either false a b = rw (and_zero_r a, and_mask b 8)

pub choose_flags : (p q r s : Bool) (a b c d a' b' c' d' : ℕ)
    → choose (lanes (num p) (num q) (num r) (num s)) (lanes a b c d) (lanes a' b' c' d')
    ≡ lanes (cond p a a') (cond q b b') (cond r c c') (cond s d d')
unfolding choose
choose_flags p q r s a b c d a' b' c' d' =
    rw (masked, times 255 (num p) (num q) (num r) (num s) (omega arith) (num_le p) (num_le q) (num_le r) (num_le s))
    (rw (other (num p * 255) (num q * 255) (num r * 255) (num s * 255))
    (rw (bytewise bit_and and_block and_mod a b c d (num p * 255) (num q * 255) (num r * 255) (num s * 255))
    (rw (bytewise bit_and and_block and_mod a' b' c' d' (no p) (no q) (no r) (no s))
    (bytewise bit_or or_block or_mod (bit_and a (num p * 255)) (bit_and b (num q * 255)) (bit_and c (num r * 255)) (bit_and d (num s * 255))
    (bit_and a' (no p)) (bit_and b' (no q)) (bit_and c' (no r)) (bit_and d' (no s))
    ∙ rw (either p a a', either q b b', either r c c', either s d d') (reduced (cond p a a') (cond q b b') (cond r c c') (cond s d d'))))))
  where
    no : Bool → ℕ
    no t = 255 - num t * 255 % 256

    masked : bit_and (lanes (num p) (num q) (num r) (num s)) ones ≡ lanes (num p) (num q) (num r) (num s)
    masked =
        ap (λ (m : ℕ). bit_and (lanes (num p) (num q) (num r) (num s)) m) ones_flags
        ∙ and_flags p q r s true true true true
        ∙ rw (and_true p, and_true q, and_true r, and_true s)
