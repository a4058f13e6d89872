-- Where each word of stored blocks stands, and that no other word changes. Assumes nothing.
use Rattle.std.specs.Prelude.{◌≡◌, ◌≢◌, Bool, true, false, List, ltb, length}
use Rattle.std.proofs.Math.Path.{refl, ap}
use Rattle.std.proofs.Common.{sym, ◌∙◌, add-zero, add-mul, mul_assoc, mul_left_comm, mul_comm, mul-le-mul_right, ltb-true, ltb-false}
use Prim.Native.Nat.{ℕ, zero, suc, ◌+◌, ◌*◌, ◌/◌, ◌%◌, ◌≤◌, ◌<◌}
use Rattle.std.proofs.Math.Nat.{suc-mul, zero-mul}
use native.Mathlib.Omega.{arith}
use Rattle.std.proofs.Math.ListN.{get_or}
use Rattle.picture.specs.Fill.{put, length_put, get_or_put, get_or_off, chunk}
use Rattle.block.specs.Drawn.{third, put_block}
use Rattle.block.specs.Store.{put_row, put_rect}
use Rattle.block.specs.StoreLaws.{row_long, rect_long}

-- ---- one block

-- a word of a block's row
pub third_word : (r c : ℕ) (b : List ℕ) → c < 3 → get_or (third r b) c 0 ≡ get_or b (3 * r + c) 0
third_word r zero b h = ap (λ (n : ℕ). get_or b n 0) (sym (add-zero (3 * r)))
third_word r (suc zero) b h = refl
third_word r (suc (suc zero)) b h = refl
third_word r (suc (suc (suc c))) b h = absurd (omega arith)

-- the place p is none of the block's at s
pub record Away (ow s p : ℕ) : Type 0 where
  pub first : s ≤ p → s + 3 ≤ p
  pub second : s + ow ≤ p → s + ow + 3 ≤ p
  pub third : s + 2 * ow ≤ p → s + 2 * ow + 3 ≤ p

module _ (ow s : ℕ) (b l : List ℕ) (room : s + 2 * ow + 3 ≤ length l) where
  l₁ : List ℕ
  l₁ = put s (third 0 b) l

  l₂ : List ℕ
  l₂ = put (s + ow) (third 1 b) l₁

  long₁ : length l₁ ≡ length l
  unfolding l₁
  long₁ = length_put s (third 0 b) l (omega arith)

  long₂ : length l₂ ≡ length l
  unfolding l₂
  long₂ = length_put (s + ow) (third 1 b) l₁ (omega (arith, long₁)) ∙ long₁

  block_off : (p : ℕ) → Away ow s p → get_or (put_block ow s b l) p 0 ≡ get_or l p 0
  unfolding put_block l₁ l₂
  block_off p a =
      get_or_off (s + 2 * ow) (third 2 b) l₂ p 0 (omega (arith, long₂)) a.third
      ∙ get_or_off (s + ow) (third 1 b) l₁ p 0 (omega (arith, long₁)) a.second
      ∙ get_or_off s (third 0 b) l p 0 (omega arith) a.first

  -- word c of row q of the block; the rows are apart
  block_word : 3 ≤ ow → (q c : ℕ) → q < 3 → c < 3 → get_or (put_block ow s b l) (s + c + q * ow) 0 ≡ get_or b (3 * q + c) 0
  unfolding put_block l₁ l₂
  block_word apart zero c hq hc =
      let e : s + c + 0 * ow ≡ s + c = omega (arith, zero-mul ow) in
      ap (λ (n : ℕ). get_or (put_block ow s b l) n 0) e
      ∙ get_or_off (s + 2 * ow) (third 2 b) l₂ (s + c) 0 (omega (arith, long₂)) (λ h. absurd (omega arith))
      ∙ get_or_off (s + ow) (third 1 b) l₁ (s + c) 0 (omega (arith, long₁)) (λ h. absurd (omega arith))
      ∙ get_or_put s (third 0 b) l c 0 hc (omega arith)
      ∙ third_word 0 c b hc
  block_word apart (suc zero) c hq hc =
      let e : s + c + 1 * ow ≡ s + ow + c = omega arith in
      ap (λ (n : ℕ). get_or (put_block ow s b l) n 0) e
      ∙ get_or_off (s + 2 * ow) (third 2 b) l₂ (s + ow + c) 0 (omega (arith, long₂)) (λ h. absurd (omega arith))
      ∙ get_or_put (s + ow) (third 1 b) l₁ c 0 hc (omega (arith, long₁))
      ∙ third_word 1 c b hc
  block_word apart (suc (suc zero)) c hq hc =
      let e : s + c + 2 * ow ≡ s + 2 * ow + c = omega arith in
      ap (λ (n : ℕ). get_or (put_block ow s b l) n 0) e
      ∙ get_or_put (s + 2 * ow) (third 2 b) l₂ c 0 hc (omega (arith, long₂))
      ∙ third_word 2 c b hc
  block_word apart (suc (suc (suc q))) c hq hc = absurd (omega arith)

-- ---- a row of blocks

pub row_off : (ow at : ℕ) (blocks : ℕ → List ℕ) (l : List ℕ) (p n : ℕ) → at + 2 * ow + n * 3 ≤ length l
    → ((m : ℕ) → m < n → Away ow (at + m * 3) p) → get_or (put_row ow at n blocks l) p 0 ≡ get_or l p 0
unfolding put_row
row_off ow at blocks l p zero room a = refl
row_off ow at blocks l p (suc n) room a =
    let e = row_long ow at blocks l n (omega arith) in
    block_off ow (at + n * 3) (blocks n) (put_row ow at n blocks l) (omega arith) p (a n (omega arith))
    ∙ row_off ow at blocks l p n (omega arith) (λ m h. a m (omega arith))

-- a word of an earlier block is none of block n's
earlier : (ow at n i q c : ℕ) → n * 3 + 3 ≤ ow → i < n → q < 3 → c < 3 → Away ow (at + n * 3) (at + i * 3 + c + q * ow)
earlier ow at n i zero c apart hi hq hc =
    let z = zero-mul ow in record { first = λ h. omega arith; second = λ h. omega arith; third = λ h. omega arith }
earlier ow at n i (suc zero) c apart hi hq hc = record { first = λ h. omega arith; second = λ h. omega arith; third = λ h. omega arith }
earlier ow at n i (suc (suc zero)) c apart hi hq hc =
    record { first = λ h. omega arith; second = λ h. omega arith; third = λ h. omega arith }
earlier ow at n i (suc (suc (suc q))) c apart hi hq hc = absurd (omega arith)

-- word c of row q of block i
row_word : (ow at : ℕ) (blocks : ℕ → List ℕ) (l : List ℕ) (n i q c : ℕ) → at + 2 * ow + n * 3 ≤ length l → n * 3 ≤ ow
    → i < n → q < 3 → c < 3
    → get_or (put_row ow at n blocks l) (at + i * 3 + c + q * ow) 0 ≡ get_or (blocks i) (3 * q + c) 0
unfolding put_row
row_word ow at blocks l zero i q c room apart hi hq hc = absurd (omega arith)
row_word ow at blocks l (suc n) i q c room apart hi hq hc =
    by_test (row_long ow at blocks l n (omega arith)) (λ h. row_word ow at blocks l n i q c (omega arith) (omega arith) h hq hc)
    (ltb i n) refl
  where
    by_test : length (put_row ow at n blocks l) ≡ length l
        → (i < n → get_or (put_row ow at n blocks l) (at + i * 3 + c + q * ow) 0 ≡ get_or (blocks i) (3 * q + c) 0)
        → (t : Bool) → ltb i n ≡ t
        → get_or (put_block ow (at + n * 3) (blocks n) (put_row ow at n blocks l)) (at + i * 3 + c + q * ow) 0 ≡ get_or (blocks i) (3 * q + c) 0
    by_test e ih true t =
        let h = ltb-true i n t in
        block_off ow (at + n * 3) (blocks n) (put_row ow at n blocks l) (omega arith) (at + i * 3 + c + q * ow)
        (earlier ow at n i q c (omega arith) h hq hc)
        ∙ ih h
    by_test e ih false t =
        let z : i ≡ n = omega (arith, ltb-false i n t) in
        ap (λ (m : ℕ). get_or (put_block ow (at + n * 3) (blocks n) (put_row ow at n blocks l)) (at + m * 3 + c + q * ow) 0) z
        ∙ block_word ow (at + n * 3) (blocks n) (put_row ow at n blocks l) (omega arith) (omega arith) q c hq hc
        ∙ ap (λ (m : ℕ). get_or (blocks m) (3 * q + c) 0) (sym z)

-- ---- a rectangle of blocks

-- a place before a row of blocks is none of theirs
above : {ow s p : ℕ} → p < s → Away ow s p
above l = record { first = λ h. omega arith; second = λ h. omega arith; third = λ h. omega arith }

module _ (ow at k : ℕ) (blocks : ℕ → ℕ → List ℕ) (l : List ℕ) where
  -- word c of row q of block (i, j); the last of the output's rows may end with the blocks
  pub rect_word : (n i j q c : ℕ) → at + n * (3 * ow) + k * 3 ≤ length l + ow → k * 3 ≤ ow → i < k → j < n → q < 3 → c < 3
      → get_or (put_rect ow at k n blocks l) (at + j * (3 * ow) + i * 3 + c + q * ow) 0 ≡ get_or (blocks i j) (3 * q + c) 0
  unfolding put_rect
  rect_word zero i j q c room apart hi hj hq hc = absurd (omega arith)
  rect_word (suc n) i j q c room apart hi hj hq hc =
      by_test (rect_long ow at k blocks l n (omega (arith, suc-mul n (3 * ow))))
      (λ h. rect_word n i j q c (omega (arith, suc-mul n (3 * ow))) apart hi h hq hc) (ltb j n) refl
    where
      few : q ≤ 2
      few = omega arith

      line : q * ow ≤ 2 * ow
      line = mul-le-mul_right ow few

      by_test : length (put_rect ow at k n blocks l) ≡ length l
          → (j < n → get_or (put_rect ow at k n blocks l) (at + j * (3 * ow) + i * 3 + c + q * ow) 0 ≡ get_or (blocks i j) (3 * q + c) 0)
          → (t : Bool) → ltb j n ≡ t
          → get_or (put_row ow (at + n * (3 * ow)) k (λ i. blocks i n) (put_rect ow at k n blocks l)) (at + j * (3 * ow) + i * 3 + c + q * ow) 0
          ≡ get_or (blocks i j) (3 * q + c) 0
      by_test e ih true t =
          let h = ltb-true j n t in
          let before : at + j * (3 * ow) + i * 3 + c + q * ow < at + n * (3 * ow) = omega (arith, chunk j n (3 * ow) h, line) in
          row_off ow (at + n * (3 * ow)) (λ i. blocks i n) (put_rect ow at k n blocks l) (at + j * (3 * ow) + i * 3 + c + q * ow) k
          (omega (arith, suc-mul n (3 * ow))) (λ m g. above (omega arith))
          ∙ ih h
      by_test e ih false t =
          let z : j ≡ n = omega (arith, ltb-false j n t) in
          let row = put_row ow (at + n * (3 * ow)) k (λ i. blocks i n) (put_rect ow at k n blocks l) in
          ap (λ (m : ℕ). get_or row (at + m * (3 * ow) + i * 3 + c + q * ow) 0) z
          ∙ row_word ow (at + n * (3 * ow)) (λ i. blocks i n) (put_rect ow at k n blocks l) k i q c
          (omega (arith, suc-mul n (3 * ow))) apart hi hq hc
          ∙ ap (λ (m : ℕ). get_or (blocks i m) (3 * q + c) 0) (sym z)

-- ---- what is read where no block lies

-- a place other than three side by side lies before them or past them
beside : (s p : ℕ) → ((c : ℕ) → c < 3 → p ≢ s + c) → s ≤ p → s + 3 ≤ p
beside s p f h = omega (arith, f 0 (omega arith), f 1 (omega arith), f 2 (omega arith))

away : (ow s p : ℕ) → ((q c : ℕ) → q < 3 → c < 3 → p ≢ s + c + q * ow) → Away ow s p
away ow s p f = record {
  first = beside s p (λ c h e. f 0 c (omega arith) h (omega (arith, zero-mul ow)));
  second = beside (s + ow) p (λ c h e. f 1 c (omega arith) h (omega arith));
  third = beside (s + 2 * ow) p (λ c h e. f 2 c (omega arith) h (omega arith));
}

pub rect_other : (ow at k : ℕ) (blocks : ℕ → ℕ → List ℕ) (l : List ℕ) (p n : ℕ) → at + n * (3 * ow) + k * 3 ≤ length l + ow
    → ((i j q c : ℕ) → i < k → j < n → q < 3 → c < 3 → p ≢ at + j * (3 * ow) + i * 3 + c + q * ow)
    → get_or (put_rect ow at k n blocks l) p 0 ≡ get_or l p 0
unfolding put_rect
rect_other ow at k blocks l p zero room f = refl
rect_other ow at k blocks l p (suc n) room f =
    let e = rect_long ow at k blocks l n (omega (arith, suc-mul n (3 * ow))) in
    row_off ow (at + n * (3 * ow)) (λ i. blocks i n) (put_rect ow at k n blocks l) p k (omega (arith, suc-mul n (3 * ow)))
    (λ i hi. away ow (at + n * (3 * ow) + i * 3) p (λ q c hq hc. f i n q c hi (omega arith) hq hc))
    ∙ rect_other ow at k blocks l p n (omega (arith, suc-mul n (3 * ow))) (λ i j q c hi hj hq hc. f i j q c hi (omega arith) hq hc)

-- ---- by rows and columns of words

-- row q of the blocks of row j, a rows further on, as a row of the output
pub lines : (a j q ow : ℕ) → a * ow + j * (3 * ow) + q * ow ≡ (a + (3 * j + q)) * ow
lines a j q ow = simp (add-mul, mul_assoc, mul_left_comm, mul_comm) (omega arith)

-- the word in column X and row Y of the rectangle
pub rect_at : (ow at k : ℕ) (blocks : ℕ → ℕ → List ℕ) (l : List ℕ) (n X Y : ℕ) → at + n * (3 * ow) + k * 3 ≤ length l + ow → k * 3 ≤ ow
    → X < 3 * k → Y < 3 * n → get_or (put_rect ow at k n blocks l) (at + Y * ow + X) 0 ≡ get_or (blocks (X / 3) (Y / 3)) (3 * (Y % 3) + X % 3) 0
rect_at ow at k blocks l n X Y room apart hx hy =
    let ey : Y ≡ 0 + (3 * (Y / 3) + Y % 3) = omega arith in
    let e : at + Y * ow + X ≡ at + Y / 3 * (3 * ow) + X / 3 * 3 + X % 3 + Y % 3 * ow =
    omega (arith, lines 0 (Y / 3) (Y % 3) ow, zero-mul ow, ap (λ (m : ℕ). m * ow) ey) in
    ap (λ (p : ℕ). get_or (put_rect ow at k n blocks l) p 0) e
    ∙ rect_word ow at k blocks l n (X / 3) (Y / 3) (Y % 3) (X % 3) room apart (omega arith) (omega arith) (omega arith) (omega arith)
