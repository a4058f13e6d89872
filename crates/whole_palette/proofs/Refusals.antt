-- What a call with a palette that is not refused knows, that the call without one then takes the replaced picture, and the order of the
-- numbers beside that call's. Assumes nothing.
use mathlib.Core.Path.{◌≡◌, refl, sym, ◌∙◌, ap}
use Rattle.std.specs.Prelude.{Err, Result}
use mathlib.Core.Logic.{◌⊎◌, inl, inr}
use mathlib.Core.Bool.{Bool, true, false, cond, ◌&&◌, ◌||◌}
use mathlib.Core.List.{List}
use Prim.Native.Nat.{ℕ, suc, ◌≤◌, ◌<◌}
use native.Mathlib.Omega.{arith}
use lib.Dec.{eqb, ltb}
use lib.ListN.{length}
use borrow.Author.Tests.{eqb-true, eqb-false, ne_eqb, lt-ltb, le-ltb}
use Rattle.picture.specs.declared.refusal.Refusal.{Refusal}
use Rattle.picture.specs.declared.refusal.Refusal.TheVariants as Refused
use Rattle.picture.specs.Answer.{number_of}
use Rattle.picture.specs.Answer.{refusal_of as answered}
use Rattle.clarity.specs.declared.Clarity.{Clarity}
use Rattle.clarity.specs.Clarity.{lawful_of}
use Rattle.sizes.specs.declared.Asked.{Asked}
use Rattle.sizes.specs.declared.Lengths.{Lengths}
use Rattle.sizes.specs.Sizes.{refusal_of}
use Rattle.whole_palette.specs.Calls.{refusal_palette}
use Rattle.whole_palette.specs.Claims.{InTurn}

number : (k : ℕ) → suc k ≡ 0 → ⊥
number k z = omega arith

-- ---- not refused: nothing else refuses the call, and the palette has an entry
pub others_take : (f entries : ℕ) → refusal_palette f entries ≡ 0 → f ≡ 0
unfolding refusal_palette
others_take f entries e = go (eqb f 0) refl e
  where
    go : (t : Bool) → eqb f 0 ≡ t → cond {A = ℕ} t (cond (eqb entries 0 || ltb 256 entries) 14 0) f ≡ 0 → f ≡ 0
    go true q z = eqb-true f 0 q
    go false q z = z

pub has_entry : (f entries : ℕ) → refusal_palette f entries ≡ 0 → 0 < entries
unfolding refusal_palette
has_entry f entries e = go (eqb f 0) (eqb entries 0) (ltb 256 entries) refl refl e
  where
    go : (t u v : Bool) → eqb f 0 ≡ t → eqb entries 0 ≡ u → cond {A = ℕ} t (cond (u || v) 14 0) f ≡ 0 → 0 < entries
    go true true v q1 q2 z = absurd (number 13 z)
    go true false v q1 q2 z = let d = eqb-false entries 0 q2 in omega arith
    go false u v q1 q2 z = absurd (eqb-false f 0 q1 z)

-- ---- a call that its sides, buffers or setting turn away: the palette is not looked at
refused_first : (e : Refusal) (entries : ℕ) → number_of e ≡ refusal_palette (number_of e) entries
unfolding refusal_palette
refused_first Refused.Side entries = refl
refused_first Refused.Picture entries = refl
refused_first Refused.Output entries = refl
refused_first Refused.Scratch entries = refl
refused_first Refused.Outside entries = refl
refused_first Refused.Operand entries = refl
refused_first Refused.Stale entries = refl
refused_first Refused.Trailer entries = refl
refused_first Refused.Long entries = refl
refused_first Refused.Lock entries = refl
refused_first Refused.Locked entries = refl
refused_first Refused.Items entries = refl
refused_first Refused.Clarity entries = refl
refused_first Refused.Palette entries = refl
refused_first Refused.Register entries = refl
refused_first Refused.Range entries = refl
refused_first Refused.Order entries = refl

pub refused_before : {A : Type 0} (r : Result A Refusal) (e : Refusal) (f entries : ℕ) → r ≡ Err e → answered r ≡ f
    → number_of e ≡ refusal_palette f entries
refused_before r e f entries is n =
    refused_first e entries ∙ ap (λ (i : ℕ). refusal_palette i entries) (sym (ap answered is) ∙ n)

-- ---- the call without a palette
abbrev pub without : Asked → Asked
without a = record {
  limit = a.limit;
  w = a.w;
  h = a.h;
  picture = a.picture;
  replaced = 0;
  output = a.output;
  middle = a.middle;
  scratch = a.scratch;
}

-- lent a picture of p words
abbrev pub lending : ℕ → Lengths → Lengths
lending p l = record { picture = p; replaced = 0; output = l.output; middle = l.middle; singles = l.singles; bytes = l.bytes }

module _ (q : Clarity) (a : Asked) (l : Lengths) where
  abbrev sides : Bool
  sides = ltb a.limit a.w || ltb a.limit a.h

  abbrev short : Bool
  short = ltb l.replaced a.replaced

  -- it takes another picture that is long enough
  pub taken_too : (p : ℕ) → a.picture ≤ p → refusal_of q a l ≡ 0 → refusal_of q (without a) (lending p l) ≡ 0
  taken_too p room e =
      go sides (ltb l.picture a.picture) (ltb l.output a.output) (ltb l.middle a.middle) short (ltb l.singles a.scratch)
      (ltb l.bytes a.scratch) (lawful_of q) (ltb p a.picture) (le-ltb p a.picture room) e
    where
      go : (t1 t2 t3 t4 t5 t6 t7 t8 u : Bool) → u ≡ false
          → cond {A = ℕ} t1 1 (cond t2 2 (cond t3 3 (cond (t4 || t5 || t6 || t7) 4 (cond t8 0 13)))) ≡ 0
          → cond {A = ℕ} t1 1 (cond u 2 (cond t3 3 (cond (t4 || false || t6 || t7) 4 (cond t8 0 13)))) ≡ 0
      go true t2 t3 t4 t5 t6 t7 t8 u n z = absurd (number 0 z)
      go false true t3 t4 t5 t6 t7 t8 u n z = absurd (number 1 z)
      go false false true t4 t5 t6 t7 t8 u n z = absurd (number 2 z)
      go false false false true t5 t6 t7 t8 u n z = absurd (number 3 z)
      go false false false false true t6 t7 t8 u n z = absurd (number 3 z)
      go false false false false false t6 t7 t8 u n z = rw n z

  -- the number with a palette by that of the call without one: after 1, 2, 3 and 4 a short buffer for the replaced picture, then 13, then
  -- the palette
  by_plain : (entries : ℕ) → let f = refusal_of q (without a) (lending l.picture l) in
      refusal_palette (refusal_of q a l) entries
      ≡ cond (eqb f 0 || eqb f 13) (cond short 4 (cond (eqb f 0 && (eqb entries 0 || ltb 256 entries)) 14 f)) f
  unfolding refusal_palette
  by_plain entries =
      go sides (ltb l.picture a.picture) (ltb l.output a.output) (ltb l.middle a.middle) short (ltb l.singles a.scratch)
      (ltb l.bytes a.scratch) (lawful_of q) (eqb entries 0 || ltb 256 entries)
    where
      go : (t1 t2 t3 t4 t5 t6 t7 t8 u : Bool) → let g = cond {A = ℕ} t1 1 (cond t2 2 (cond t3 3 (cond (t4 || t5 || t6 || t7) 4 (cond t8 0 13)))) in
          let f = cond {A = ℕ} t1 1 (cond t2 2 (cond t3 3 (cond (t4 || false || t6 || t7) 4 (cond t8 0 13)))) in
          cond (eqb g 0) (cond u 14 0) g ≡ cond (eqb f 0 || eqb f 13) (cond t5 4 (cond (eqb f 0 && u) 14 f)) f
      go true t2 t3 t4 t5 t6 t7 t8 u = refl
      go false true t3 t4 t5 t6 t7 t8 u = refl
      go false false true t4 t5 t6 t7 t8 u = refl
      go false false false true t5 t6 t7 t8 u = refl
      go false false false false true true t7 t8 u = refl
      go false false false false true false true t8 u = refl
      go false false false false true false false true u = refl
      go false false false false true false false false u = refl
      go false false false false false true t7 t8 u = refl
      go false false false false false false true t8 u = refl
      go false false false false false false false true u = refl
      go false false false false false false false false u = refl

  pub in_turn : (palette x : List ℕ) (r : ℕ) → length x ≡ l.replaced → r ≡ refusal_palette (refusal_of q a l) (length palette)
      → InTurn (refusal_of q (without a) (lending l.picture l)) a.replaced palette x r
  in_turn palette x r long e = record {
    first = λ u v. is ∙ rw (ne_eqb f 0 u, ne_eqb f 13 v);
    short = λ k n. is ∙ is_short k (lt-ltb l.replaced a.replaced (omega arith));
    setting = λ k n. is ∙ rw (k, le-ltb l.replaced a.replaced (omega arith));
    empty = λ k n m. is ∙ rw (k, le-ltb l.replaced a.replaced (omega arith), m);
    over = λ k n m. is ∙ rw (k, le-ltb l.replaced a.replaced (omega arith), lt-ltb 256 (length palette) m, or_true (eqb (length palette) 0));
    taken = λ k n m o.
        is
        ∙ rw (
          k,
          le-ltb l.replaced a.replaced (omega arith),
          le-ltb 256 (length palette) o,
          ne_eqb (length palette) 0 (λ z. omega arith),
        );
  }
    where
      f : ℕ
      f = refusal_of q (without a) (lending l.picture l)

      is : r ≡ cond (eqb f 0 || eqb f 13) (cond short 4 (cond (eqb f 0 && (eqb (length palette) 0 || ltb 256 (length palette))) 14 f)) f
      is = e ∙ by_plain (length palette)

      or_true : (t : Bool) → (t || true) ≡ true
      or_true true = refl
      or_true false = refl

      is_short : (f ≡ 0) ⊎ (f ≡ 13) → short ≡ true
          → cond (eqb f 0 || eqb f 13) (cond short 4 (cond (eqb f 0 && (eqb (length palette) 0 || ltb 256 (length palette))) 14 f)) f ≡ 4
      is_short (inl k) n = rw (k, n)
      is_short (inr k) n = rw (k, n)
