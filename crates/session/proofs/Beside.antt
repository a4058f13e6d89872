-- The zeros that stand for the words of a block whose show is refused. Assumes nothing.
use mathlib.Core.Path.{◌≡◌, refl, ap, ◌∙◌}
use mathlib.Core.Bool.{Bool, true, false, cond}
use mathlib.Core.List.{List}
use Prim.Native.Nat.{ℕ}
use lib.Dec.{eqb}
use lib.ListN.{length, replicate}
use Rattle.picture.specs.declared.refusal.Refusal.{Refusal}
use Rattle.picture.specs.Answer.{number_of}
use Rattle.refusals.proofs.Numbers.{numbered}
use Rattle.header.specs.declared.Header.{Header}
use Rattle.machine.specs.Screen.{Screen, block_words}
use Rattle.machine.specs.Calls.{ShowEnd, refusal_show, show_end, Shows}

module _ (e : Refusal) (ws zeros : List ℕ) where
  -- a number that is not 0 is that of the second of two ends, where the first has 0
  second : (t : Bool) (a b : ShowEnd) → a.refusal ≡ 0 → zeros ≡ b.words → record { refusal = number_of e; words = ws } ≡ cond t a b
      → record { refusal = number_of e; words = zeros } ≡ cond t a b
  second true a b z w q = absurd (numbered e (ap (λ (x : ShowEnd). x.refusal) q ∙ z))
  second false a b z w q = λ i. record { refusal = (q i).refusal; words = w i }

-- of the screen S that the call was made for, which is T, of n words to a block
pub show_beside : (S T : Screen) (n : ℕ) → S ≡ T → n ≡ block_words T → (header : Header) (o m : List ℕ) (bx by : ℕ) (e : Refusal)
    (ws : List ℕ) → Shows S header o m bx by (record { refusal = number_of e; words = ws })
    → Shows T header o m bx by (record { refusal = number_of e; words = replicate n 0 })
unfolding show_end
show_beside S T n is sized header o m bx by e ws told =
    record {
      is =
          second e ws (replicate n 0) (eqb (refusal_show T.side (block_words T) header (length o) m bx by) 0) _ _ refl
          (ap (λ (k : ℕ). replicate k 0) sized) (told.is ∙ ap (λ (R : Screen). show_end R header o m bx by) is);
    }
