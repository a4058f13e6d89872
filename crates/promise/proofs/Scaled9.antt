-- The nine-times session in terms of `scale9x`, by its contract: a picture with every block drawn is the list that `scale9x` writes, lent the
-- same picture buffer, whatever the buffers' lengths. Assumes nothing.
use mathlib.Core.Path.{◌≡◌, refl, sym, ap, ap₂, ◌∙◌}
use mathlib.Core.Bool.{true, false}
use mathlib.Core.List.{List}
use Prim.Native.Nat.{ℕ, ◌+◌, ◌*◌, ◌/◌, ◌%◌, ◌≤◌, ◌<◌}
use native.Mathlib.Nat.{mul_assoc, mul_left_comm, mul_comm}
use native.Mathlib.Omega.{arith}
use lib.ListN.{length, get_or, take, replicate, length-replicate}
use Rattle.picture.specs.Picture.{words}
use Rattle.picture.specs.Fill.{put, take_front}
use Rattle.single.specs.Single.{f0}
use Rattle.clarity.specs.declared.Clarity.{Clarity}
use Rattle.clarity.specs.Clarity.{lawful_of}
use Rattle.sizes.specs.Sizes.{asked9, lent9}
use Rattle.sizes.proofs.Sizes.{taken}
use Rattle.enlarged.specs.Whole.{scale_of, singles_of, bytes_of}
use Rattle.enlarged.specs.Laws.{scale_block, scale_length}
use Rattle.whole.specs.Claims.{Enlarges9}
use Rattle.whole.proofs.Theorem.{whole_laws}
use Rattle.machine.specs.Demand3.{whole}
use Rattle.machine.specs.Calls.{side_long}
use Rattle.machine.specs.Claims.{Leaves, AsEnlarged}
use Rattle.machine.proofs.Lists.{get_or_table}
use Rattle.machine.proofs.Places.{column_lt, row_lt}
use Rattle.machine.proofs.Whole.{whole_is}
use Rattle.machine.proofs.Enlarged.{as_enlarged}
use Rattle.nine.specs.Nine.{enlarged, enlarged_twice, screen9}
use Rattle.nine.proofs.Nine.{word_local, lawful9}

-- what `scale` writes, word by word
scaled_words : (q : Clarity) (w h : ℕ) (f : ℕ → ℕ → ℕ) (x y : ℕ) → x < 3 * w → y < 3 * h → words (3 * w) (scale_of q w h f) x y ≡ enlarged q w h f x y
unfolding enlarged
scaled_words q w h f x y hx hy =
    let ex : x ≡ 3 * (x / 3) + x % 3 = omega arith in
    let ey : y ≡ 3 * (y / 3) + y % 3 = omega arith in
    ap₂ {C = ℕ} (λ (r c : ℕ). get_or (scale_of q w h f) (r * (3 * w) + c) 0) ey ex
    ∙ scale_block q w h f (x / 3) (y / 3) (y % 3) (x % 3) (omega arith) (omega arith) (omega arith) (omega arith)

module _ (q : Clarity) (w h : ℕ) (p : List ℕ) where
  -- what `scale9x` writes
  abbrev scaled9 : List ℕ
  scaled9 = scale_of q (3 * w) (3 * h) (words (3 * w) (scale_of q w h (words w p)))

  -- word by word: the second pass reads no word of the first result past its borders
  twice_words : (x y : ℕ) → x < 9 * w → y < 9 * h → get_or scaled9 (y * (9 * w) + x) 0 ≡ enlarged_twice q w h (words w p) x y
  unfolding enlarged_twice
  twice_words x y hx hy =
      let f : ℕ → ℕ → ℕ = words w p in
      let g : ℕ → ℕ → ℕ = words (3 * w) (scale_of q w h f) in
      let wide : 9 * w ≡ 3 * (3 * w) = omega arith in
      ap (λ (n : ℕ). get_or scaled9 (y * n + x) 0) wide
      ∙ scaled_words q (3 * w) (3 * h) g x y (omega arith) (omega arith)
      ∙ word_local q (3 * w) (3 * h) g (enlarged q w h f) x y (omega arith) (omega arith) (λ c r i. scaled_words q w h f c r i.on_x i.on_y)

  scaled_length : length scaled9 ≡ 81 * (w * h)
  scaled_length = scale_length q (3 * w) (3 * h) (words (3 * w) (scale_of q w h (words w p))) ∙ simp (mul_assoc, mul_left_comm, mul_comm) (omega arith)

  -- every block drawn, and `scale9x`'s output, at every setting
  whole_scaled : whole screen9 w h q p ≡ scaled9
  whole_scaled =
      whole_is screen9 lawful9 q w h p scaled9 scaled_length (λ b k l m.
      get_or_table 81 (λ k. enlarged_twice q w h (words w p) (9 * (b % w) + k % 9) (9 * (b / w) + k / 9)) k 0 m
      ∙ sym (twice_words (9 * (b % w) + k % 9) (9 * (b / w) + k / 9) (omega (arith, column_lt w h b l)) (omega (arith, row_lt w h b l))))

-- and what it leaves, lent a picture buffer of any length
scaled_front : (q : Clarity) (w h : ℕ) (p o : List ℕ) → Enlarges9 q w h p o → take (81 * (w * h)) o ≡ whole screen9 w h q (take (w * h) p)
scaled_front q w h p o d =
    let s = whole_laws.scale9x_front q w h p d.output d.middle d.singles d.bytes o d.middle' d.singles' d.bytes' 0 d.scales in
    ap (take (81 * (w * h))) s.output_now
    ∙ take_front (scaled9 q w h (take (w * h) p)) d.output (81 * (w * h)) (scaled_length q w h (take (w * h) p))
    ∙ sym (whole_scaled q w h (take (w * h) p))

-- it is not refused, lent buffers of the lengths that it asks for
can_scale : (q : Clarity) (w h : ℕ) (p : List ℕ) → side_long 682 w h ≡ false → w * h ≤ length p → lawful_of q ≡ true → Leaves Enlarges9 q w h p
can_scale q w h p e room l =
    let output = replicate {A = ℕ} (81 * (w * h)) 0 in
    let middle = replicate {A = ℕ} (9 * (w * h)) 0 in
    let singles = replicate (72 * (w * h)) f0 in
    let bytes = replicate {A = ℕ} (72 * (w * h)) 0 in
    let first = words (3 * w) (scale_of q w h (words w p)) in
    record {
      output = put 0 (scaled9 q w h p) output;
      enlarges = record {
        output = output;
        middle = middle;
        singles = singles;
        bytes = bytes;
        middle' = put 0 (scale_of q w h (words w p)) middle;
        singles' = put 0 (singles_of q (3 * w) (3 * h) first) singles;
        bytes' = put 0 (bytes_of q (3 * w) (3 * h) first) bytes;
        scales = record {
          refusal_now = sym (taken q (asked9 w h (w * h) 0) (lent9 0 p output middle singles bytes) e room (omega arith)
              (omega (arith, length-replicate {A = ℕ} (81 * (w * h)) 0)) (omega (arith, length-replicate {A = ℕ} (9 * (w * h)) 0))
              (omega (arith, length-replicate (72 * (w * h)) f0)) (omega (arith, length-replicate {A = ℕ} (72 * (w * h)) 0)) l);
          middle_now = refl;
          output_now = refl;
          singles_now = refl;
          bytes_now = refl;
        };
      };
    }

pub as_scaled : AsEnlarged screen9 Enlarges9
as_scaled = as_enlarged screen9 lawful9 Enlarges9 scaled_front can_scale
