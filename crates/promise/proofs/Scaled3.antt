-- The three-times session in terms of `scale`, by its contract: a picture with every block drawn is the list that `scale` writes, lent the
-- same picture buffer, whatever the buffers' lengths. Assumes nothing.
use mathlib.Core.Path.{◌≡◌, refl, sym, ap, ◌∙◌}
use mathlib.Core.Bool.{true, false}
use mathlib.Core.List.{List}
use Prim.Native.Nat.{ℕ, ◌+◌, ◌*◌, ◌/◌, ◌%◌, ◌≤◌}
use native.Mathlib.Omega.{arith}
use lib.ListN.{length, get_or, take, replicate, length-replicate}
use Rattle.picture.specs.Picture.{words}
use Rattle.picture.specs.Fill.{put, take_front}
use Rattle.single.specs.Single.{f0}
use Rattle.clarity.specs.declared.Clarity.{Clarity}
use Rattle.clarity.specs.Clarity.{lawful_of}
use Rattle.block.specs.Block.{block_of}
use Rattle.sizes.specs.Sizes.{asked3, lent3}
use Rattle.sizes.proofs.Sizes.{taken}
use Rattle.enlarged.specs.Whole.{scale_of, singles_of, bytes_of}
use Rattle.enlarged.specs.Laws.{scale_block, scale_length}
use Rattle.whole.specs.Claims.{Enlarges3}
use Rattle.whole.proofs.Theorem.{whole_laws}
use Rattle.machine.specs.Demand3.{whole}
use Rattle.machine.specs.Calls.{side_long}
use Rattle.machine.specs.Claims.{Leaves, AsEnlarged}
use Rattle.machine.proofs.Places.{column_lt, row_lt}
use Rattle.machine.proofs.Whole.{whole_is}
use Rattle.machine.proofs.Enlarged.{as_enlarged}
use Rattle.three.specs.Three.{screen3}
use Rattle.three.proofs.Three.{lawful3}

-- every block drawn, and `scale`'s output, at every setting
whole_scaled : (q : Clarity) (w h : ℕ) (p : List ℕ) → whole screen3 w h q p ≡ scale_of q w h (words w p)
whole_scaled q w h p =
    whole_is screen3 lawful3 q w h p (scale_of q w h (words w p)) (scale_length q w h (words w p)) (λ b k l m.
    let e : k ≡ 3 * (k / 3) + k % 3 = omega arith in
    ap (λ (n : ℕ). get_or (block_of q w h (words w p) (b % w) (b / w)) n 0) e
    ∙ sym (scale_block q w h (words w p) (b % w) (b / w) (k / 3) (k % 3) (column_lt w h b l) (row_lt w h b l) (omega arith) (omega arith)))

-- and what it leaves, lent a picture buffer of any length
scaled_front : (q : Clarity) (w h : ℕ) (p o : List ℕ) → Enlarges3 q w h p o → take (9 * (w * h)) o ≡ whole screen3 w h q (take (w * h) p)
scaled_front q w h p o d =
    let s = whole_laws.scale_front q w h p d.output d.singles d.bytes o d.singles' d.bytes' 0 d.scales in
    let f = words w (take (w * h) p) in
    ap (take (9 * (w * h))) s.output_now
    ∙ take_front (scale_of q w h f) d.output (9 * (w * h)) (scale_length q w h f)
    ∙ sym (whole_scaled q w h (take (w * h) p))

-- it is not refused, lent buffers of the lengths that it asks for
can_scale : (q : Clarity) (w h : ℕ) (p : List ℕ) → side_long 2048 w h ≡ false → w * h ≤ length p → lawful_of q ≡ true → Leaves Enlarges3 q w h p
can_scale q w h p e room l =
    let output = replicate {A = ℕ} (9 * (w * h)) 0 in
    let singles = replicate (8 * (w * h)) f0 in
    let bytes = replicate {A = ℕ} (8 * (w * h)) 0 in
    record {
      output = put 0 (scale_of q w h (words w p)) output;
      enlarges = record {
        output = output;
        singles = singles;
        bytes = bytes;
        singles' = put 0 (singles_of q w h (words w p)) singles;
        bytes' = put 0 (bytes_of q w h (words w p)) bytes;
        scales = record {
          refusal_now = sym (taken q (asked3 w h (w * h) 0) (lent3 0 p output singles bytes) e room (omega arith)
              (omega (arith, length-replicate {A = ℕ} (9 * (w * h)) 0)) (omega arith) (omega (arith, length-replicate (8 * (w * h)) f0))
              (omega (arith, length-replicate {A = ℕ} (8 * (w * h)) 0)) l);
          output_now = refl;
          singles_now = refl;
          bytes_now = refl;
        };
      };
    }

pub as_scaled : AsEnlarged screen3 Enlarges3
as_scaled = as_enlarged screen3 lawful3 Enlarges3 scaled_front can_scale
