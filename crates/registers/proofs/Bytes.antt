-- What becomes of single registers, and which writes are refused. Assumes nothing.
use mathlib.Core.Path.{◌≡◌, refl, ◌∙◌}
use mathlib.Core.Bool.{Bool, true, false, cond, ◌||◌, true≢false}
use mathlib.Core.List.{List}
use Prim.Native.Nat.{ℕ, ◌<◌}
use native.Mathlib.Omega.{arith}
use lib.Dec.{ltb, eqb}
use lib.ListN.{length, set, length-set}
use lib.Seq.{get_or-set_other}
use borrow.Author.Tests.{ne_eqb, le-ltb, eqb-true, eqb-false, ltb-false}
use lib.Bits.{bit_or}
use Rattle.registers.specs.Registers.{byte, line_of, status_of, with_answer, with_raised, with_flags, with_mask, refusal_write}

-- ---- a byte after others are set
pub set_keeps : (r : List ℕ) (i v k : ℕ) → (k ≡ i → ⊥) → byte (set r i v) k ≡ byte r k
set_keeps r i v k n = get_or-set_other r i k v 0 n

pub set_keeps_two : (r : List ℕ) (i v j u k : ℕ) → (k ≡ i → ⊥) → (k ≡ j → ⊥) → byte (set (set r i v) j u) k ≡ byte r k
set_keeps_two r i v j u k n m = set_keeps (set r i v) j u k m ∙ set_keeps r i v k n

pub answer_keeps : (r : List ℕ) (v f n k : ℕ) → 1 < k → (k ≡ 14 → ⊥) → byte (with_answer r v f n) k ≡ byte r k
answer_keeps r v f n k l e =
    let s = status_of (byte r 1) f n in
    set_keeps (set (set r 0 v) 1 s) 14 f k e ∙ set_keeps_two r 0 v 1 s k (λ q. omega arith) (λ q. omega arith)

pub flags_keep : (r : List ℕ) (f k : ℕ) → (k ≡ 2 → ⊥) → (k ≡ 15 → ⊥) → byte (with_flags r f) k ≡ byte r k
flags_keep r f k n m = set_keeps_two r 2 f 15 (line_of f (byte r 3)) k n m

pub mask_keeps : (r : List ℕ) (m k : ℕ) → (k ≡ 3 → ⊥) → (k ≡ 15 → ⊥) → byte (with_mask r m) k ≡ byte r k
mask_keeps r m k n l = set_keeps_two r 3 m 15 (line_of (byte r 2) m) k n l

pub raised_keeps : (t : Bool) (r : List ℕ) (k : ℕ) → (k ≡ 2 → ⊥) → (k ≡ 15 → ⊥) → byte (with_raised t r) k ≡ byte r k
raised_keeps true r k n m = flags_keep r (bit_or (byte r 2) 1) k n m
raised_keeps false r k n m = refl

-- ---- lengths
pub answer_length : (r : List ℕ) (v f n : ℕ) → length (with_answer r v f n) ≡ length r
answer_length r v f n = simp length-set

pub flags_length : (r : List ℕ) (f : ℕ) → length (with_flags r f) ≡ length r
flags_length r f = simp length-set

pub mask_length : (r : List ℕ) (m : ℕ) → length (with_mask r m) ≡ length r
mask_length r m = simp length-set

pub raised_length : (t : Bool) (r : List ℕ) → length (with_raised t r) ≡ length r
raised_length true r = flags_length r (bit_or (byte r 2) 1)
raised_length false r = refl

-- ---- which writes are refused

-- none from 2 to 13
pub taken : (a v : ℕ) → 1 < a → a < 14 → refusal_write a v ≡ 0
taken a v l m = rw (ne_eqb a 0 (λ q. omega arith), ne_eqb a 1 (λ q. omega arith), ne_eqb a 14 (λ q. omega arith), ne_eqb a 15 (λ q. omega arith), le-ltb 15 a (omega arith))

zero_eqb : (n : ℕ) → n ≡ 0 → eqb n 0 ≡ true
zero_eqb n e = rw e

pub taken_test : (a v : ℕ) → 1 < a → a < 14 → eqb (refusal_write a v) 0 ≡ true
taken_test a v l m = zero_eqb (refusal_write a v) (taken a v l m)

-- and of those that are not, none is elsewhere but a command
pub inner_write : (a v : ℕ) → eqb (refusal_write a v) 0 ≡ true → eqb a 0 ≡ false → (1 < a) × (a < 14)
inner_write a v e f =
    by_tests (eqb a 0) (eqb a 1) (eqb a 14) (eqb a 15) (ltb 15 a) f refl refl refl refl (eqb-true (refusal_write a v) 0 e)
  where
    by_tests : (x t u y z : Bool) → x ≡ false → eqb a 1 ≡ t → eqb a 14 ≡ u → eqb a 15 ≡ y → ltb 15 a ≡ z
        → cond {A = ℕ} x (cond (eqb v 1 || eqb v 2) 0 15) (cond ((t || u) || (y || z)) 15 0) ≡ 0 → (1 < a) × (a < 14)
    by_tests true t u y z q i j k l n = absurd (true≢false q)
    by_tests false true u y z q i j k l n = absurd (omega arith)
    by_tests false false true y z q i j k l n = absurd (omega arith)
    by_tests false false false true z q i j k l n = absurd (omega arith)
    by_tests false false false false true q i j k l n = absurd (omega arith)
    by_tests false false false false false q i j k l n =
        omega (arith, ltb-false 15 a l, eqb-false a 0 f, eqb-false a 1 i, eqb-false a 14 j, eqb-false a 15 k)
