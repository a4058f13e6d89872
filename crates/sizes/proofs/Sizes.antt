-- Sides within a limit and lengths that suffice: what a call that is not refused knows of them. Assumes nothing.
use mathlib.Core.Path.{◌≡◌, refl}
use mathlib.Core.Bool.{Bool, true, false, cond, ◌||◌}
use Prim.Native.Nat.{ℕ, suc, ◌≤◌}
use native.Mathlib.Omega.{arith}
use lib.Dec.{ltb}
use borrow.Author.Tests.{ltb-false, le-ltb}
use Rattle.clarity.specs.declared.Clarity.{Clarity}
use Rattle.clarity.specs.Clarity.{lawful_of}
use Rattle.sizes.specs.declared.Asked.{Asked}
use Rattle.sizes.specs.declared.Lengths.{Lengths}
use Rattle.sizes.specs.Sizes.{refusal_of}

-- no test of the sides held: they are within the limit
pub sides : (side w h : ℕ) → (ltb side w || ltb side h) ≡ false → (w ≤ side) × (h ≤ side)
sides side w h e = go (ltb side w) (ltb side h) refl refl e
  where
    go : (s t : Bool) → ltb side w ≡ s → ltb side h ≡ t → (s || t) ≡ false → (w ≤ side) × (h ≤ side)
    go false false p q z = (ltb-false side w p, ltb-false side h q)
    go false true p q z = absurd (mathlib.Core.Bool.true≢false z)
    go true t p q z = absurd (mathlib.Core.Bool.true≢false z)

-- a call that was not refused: the conditions hold
pub record Accepted (asked : Asked) (lent : Lengths) : Type 0 where
  pub wide : asked.w ≤ asked.limit
  pub high : asked.h ≤ asked.limit
  pub picture_fits : asked.picture ≤ lent.picture
  pub replaced_fits : asked.replaced ≤ lent.replaced
  pub output_fits : asked.output ≤ lent.output
  pub middle_fits : asked.middle ≤ lent.middle
  pub singles_fit : asked.scratch ≤ lent.singles
  pub bytes_fit : asked.scratch ≤ lent.bytes

pub accepted : (q : Clarity) (asked : Asked) (lent : Lengths) → refusal_of q asked lent ≡ 0 → Accepted asked lent
accepted q asked lent e =
    go (ltb asked.limit asked.w || ltb asked.limit asked.h) (ltb lent.picture asked.picture) (ltb lent.output asked.output)
    (ltb lent.middle asked.middle) (ltb lent.replaced asked.replaced) (ltb lent.singles asked.scratch)
    (ltb lent.bytes asked.scratch) (lawful_of q) refl refl refl refl refl refl refl e
  where
    number : (k : ℕ) → suc k ≡ 0 → ⊥
    number k z = omega arith

    go : (t1 t2 t3 t4 t5 t6 t7 t8 : Bool) → (ltb asked.limit asked.w || ltb asked.limit asked.h) ≡ t1
        → ltb lent.picture asked.picture ≡ t2 → ltb lent.output asked.output ≡ t3 → ltb lent.middle asked.middle ≡ t4
        → ltb lent.replaced asked.replaced ≡ t5 → ltb lent.singles asked.scratch ≡ t6 → ltb lent.bytes asked.scratch ≡ t7
        → cond {A = ℕ} t1 1 (cond t2 2 (cond t3 3 (cond (t4 || t5 || t6 || t7) 4 (cond t8 0 13)))) ≡ 0 → Accepted asked lent
    go false false false false false false false true q1 q2 q3 q4 q5 q6 q7 z =
        let sd = sides asked.limit asked.w asked.h q1 in
        record {
          wide = sd.0;
          high = sd.1;
          picture_fits = ltb-false lent.picture asked.picture q2;
          replaced_fits = ltb-false lent.replaced asked.replaced q5;
          output_fits = ltb-false lent.output asked.output q3;
          middle_fits = ltb-false lent.middle asked.middle q4;
          singles_fit = ltb-false lent.singles asked.scratch q6;
          bytes_fit = ltb-false lent.bytes asked.scratch q7;
        }
    go true t2 t3 t4 t5 t6 t7 t8 q1 q2 q3 q4 q5 q6 q7 z = absurd (number 0 z)
    go false true t3 t4 t5 t6 t7 t8 q1 q2 q3 q4 q5 q6 q7 z = absurd (number 1 z)
    go false false true t4 t5 t6 t7 t8 q1 q2 q3 q4 q5 q6 q7 z = absurd (number 2 z)
    go false false false true t5 t6 t7 t8 q1 q2 q3 q4 q5 q6 q7 z = absurd (number 3 z)
    go false false false false true t6 t7 t8 q1 q2 q3 q4 q5 q6 q7 z = absurd (number 3 z)
    go false false false false false true t7 t8 q1 q2 q3 q4 q5 q6 q7 z = absurd (number 3 z)
    go false false false false false false true t8 q1 q2 q3 q4 q5 q6 q7 z = absurd (number 3 z)
    go false false false false false false false false q1 q2 q3 q4 q5 q6 q7 z = absurd (number 12 z)

-- and the other way round
pub taken : (q : Clarity) (asked : Asked) (lent : Lengths) → (ltb asked.limit asked.w || ltb asked.limit asked.h) ≡ false
    → asked.picture ≤ lent.picture → asked.replaced ≤ lent.replaced → asked.output ≤ lent.output → asked.middle ≤ lent.middle
    → asked.scratch ≤ lent.singles → asked.scratch ≤ lent.bytes → lawful_of q ≡ true → refusal_of q asked lent ≡ 0
taken q asked lent e p x o m s b l =
    rw (
      e,
      le-ltb lent.picture asked.picture p,
      le-ltb lent.replaced asked.replaced x,
      le-ltb lent.output asked.output o,
      le-ltb lent.middle asked.middle m,
      le-ltb lent.singles asked.scratch s,
      le-ltb lent.bytes asked.scratch b,
      l,
    )
