-- Laws of the page reader's definitions: its answer by the tests that lead to it, and that a page it takes is all of its file. Assumes nothing.
use mathlib.Core.Bool.{Bool, true, false, cond, not, ◌||◌}
use mathlib.Core.List.{List, [], ◌∷◌}
use mathlib.Core.Path.{◌≡◌, refl, sym, ◌∙◌, ap}
use Prim.Native.Nat.{ℕ, ◌+◌, ◌-◌, ◌*◌, ◌<◌, ◌≤◌}
use native.Mathlib.Numerals.{add-one}
use native.Mathlib.Omega.{arith}
use lib.Dec.{eqb, ltb}
use lib.ListN.{length, set}
use lib.Seq.{set_split}
use borrow.Author.Tests.{lt-ltb, le-ltb, eq-eqb, ne_eqb, eqb-true, eqb-false, ltb-false, not-false}
use Rattle.picture.proofs.Bools.{or_left, or_right, or_none}
use Rattle.picture.specs.Fill.{put}
use Rattle.picture.specs.declared.refusal.Refusal.{Refusal}
use Rattle.picture.specs.declared.refusal.Refusal.TheVariants as Refused
use Rattle.picture.specs.Answer.{number_of}
use Rattle.picture.specs.Refusal.{none, side, picture, trailer}
use Rattle.page.specs.Page.{width, height, back, mark, page, same, bad_trailer, broken, wide, words_from, pixels, read_refusal, beside, read_of, picture_of, Reads}
use Rattle.page.specs.Claims.{WholeFile}
use Rattle.page.specs.Page.{PageRead}

-- one element stored
pub set_put : (l : List ℕ) (i v : ℕ) → i < length l → set l i v ≡ put i (v ∷ []) l
unfolding put
set_put l i v h = rw (add-one, set_split l i v)

module _ (f : List ℕ) where
  -- each way to refusal 8
  pub broken_trailer : bad_trailer f ≡ true → broken f ≡ true
  unfolding broken
  broken_trailer b = or_left _ _ b

  pub broken_length : (back f ≡ length f → ⊥) → broken f ≡ true
  unfolding broken
  broken_length h = or_right (bad_trailer f) _ (ap not (ne_eqb (back f) (length f) h))

  -- and none
  pub unbroken : bad_trailer f ≡ false → back f ≡ length f → broken f ≡ false
  unfolding broken
  unbroken b e = rw (b, eq-eqb (back f) (length f) e)

  -- each way to refusal 1
  pub wide_w : 2048 < width f → wide f ≡ true
  unfolding wide
  wide_w h = or_left _ _ (lt-ltb 2048 (width f) h)

  pub wide_h : 2048 < height f → wide f ≡ true
  unfolding wide
  wide_h h = or_right (ltb 2048 (width f)) _ (lt-ltb 2048 (height f) h)

  module _ (room : ℕ) (r : PageRead) where
    pub refused_8 : r ≡ record { refusal = trailer; w = 0; h = 0 } → broken f ≡ true → r ≡ read_of f room
    unfolding read_of read_refusal
    refused_8 e b = rw b e

    pub refused_1 : r ≡ record { refusal = side; w = 0; h = 0 } → broken f ≡ false → wide f ≡ true → r ≡ read_of f room
    unfolding read_of read_refusal
    refused_1 e b s = rw (b, s) e

    pub refused_2 : r ≡ record { refusal = picture; w = 0; h = 0 } → broken f ≡ false → wide f ≡ false → room < width f * height f → r ≡ read_of f room
    unfolding read_of read_refusal
    refused_2 e b s h = rw (b, s, lt-ltb room (width f * height f) h) e

    pub accepted : r ≡ record { refusal = none; w = width f; h = height f } → broken f ≡ false → wide f ≡ false → width f * height f ≤ room → r ≡ read_of f room
    unfolding read_of read_refusal
    accepted e b s h = rw (b, s, le-ltb room (width f * height f) h) e

-- what a page that is not refused has
pub record Sound (f : List ℕ) (room : ℕ) : Type 0 where
  pub width_small : width f ≤ 2048
  pub height_small : height f ≤ 2048
  pub back_right : back f ≡ 12 + 4 * (width f * height f)
  pub back_whole : back f ≡ length f
  pub fits : width f * height f ≤ room

pub not_refused : (f : List ℕ) (room : ℕ) → read_refusal f room ≡ none → Sound f room
unfolding read_refusal broken bad_trailer wide
not_refused f room e = go (broken f) (wide f) (ltb room (width f * height f)) refl refl refl e
  where
    go : (b s t : Bool) → broken f ≡ b → wide f ≡ s → ltb room (width f * height f) ≡ t → cond b trailer (cond s side (cond t picture none)) ≡ none → Sound f room
    go true s t p q r z = absurd (eqb-false trailer none refl z)
    go false true t p q r z = absurd (eqb-false side none refl z)
    go false false true p q r z = absurd (eqb-false picture none refl z)
    go false false false p q r z =
        let marks = ltb (length f) 12 || not (same (mark f) page) in
        let wrong = not (eqb (back f) (12 + 4 * (width f * height f))) in
        let all = or_none (bad_trailer f) (not (eqb (back f) (length f))) p in
        let sides = or_none (ltb 2048 (width f)) (ltb 2048 (height f)) q in
        record {
          width_small = ltb-false 2048 (width f) sides.0;
          height_small = ltb-false 2048 (height f) sides.1;
          back_right = eqb-true (back f) (12 + 4 * (width f * height f)) (not-false (eqb (back f) (12 + 4 * (width f * height f))) (or_none marks wrong all.0).1);
          back_whole = eqb-true (back f) (length f) (not-false (eqb (back f) (length f)) all.1);
          fits = ltb-false room (width f * height f) r;
        }

-- a page that is taken starts at its file's first byte
pub first_byte : (f : List ℕ) (room : ℕ) → read_refusal f room ≡ none → pixels f ≡ words_from 0 (width f * height f) f
unfolding pixels
first_byte f room e =
    let z : length f - back f ≡ 0 = omega (arith, (not_refused f room e).back_whole) in
    ap (λ (i : ℕ). words_from i (width f * height f) f) z

module _ (f : List ℕ) (room : ℕ) (r : PageRead) (e : r ≡ read_of f room) where
  pub refusal_is : r.refusal ≡ read_refusal f room
  unfolding read_of
  refusal_is = ap (λ (q : PageRead). q.refusal) e

  module _ (z : r.refusal ≡ none) where
    pub is_sound : Sound f room
    is_sound = not_refused f room (sym refusal_is ∙ z)

    pub w_is : r.w ≡ width f
    unfolding read_of
    w_is = ap (λ (q : PageRead). q.w) e ∙ ap (λ (k : ℕ). beside k (width f)) (sym refusal_is ∙ z)

    pub h_is : r.h ≡ height f
    unfolding read_of
    h_is = ap (λ (q : PageRead). q.h) e ∙ ap (λ (k : ℕ). beside k (height f)) (sym refusal_is ∙ z)

    pub count_is : r.w * r.h ≡ width f * height f
    count_is = cc (w_is, h_is)

    pub all_of_it : (length f ≡ 12 + 4 * (r.w * r.h)) × (r.w * r.h ≤ room)
    all_of_it = let s = is_sound in (omega (arith, count_is), omega (arith, count_is))

pub whole_file : WholeFile
whole_file = record { first_byte = first_byte; all_of_it = all_of_it }

-- no refusal has the number of none
pub numbered : (e : Refusal) → number_of e ≡ none → ⊥
numbered Refused.Side z = absurd (eqb-false (number_of Refused.Side) none refl z)
numbered Refused.Picture z = absurd (eqb-false (number_of Refused.Picture) none refl z)
numbered Refused.Output z = absurd (eqb-false (number_of Refused.Output) none refl z)
numbered Refused.Scratch z = absurd (eqb-false (number_of Refused.Scratch) none refl z)
numbered Refused.Outside z = absurd (eqb-false (number_of Refused.Outside) none refl z)
numbered Refused.Operand z = absurd (eqb-false (number_of Refused.Operand) none refl z)
numbered Refused.Stale z = absurd (eqb-false (number_of Refused.Stale) none refl z)
numbered Refused.Trailer z = absurd (eqb-false (number_of Refused.Trailer) none refl z)
numbered Refused.Long z = absurd (eqb-false (number_of Refused.Long) none refl z)
numbered Refused.Lock z = absurd (eqb-false (number_of Refused.Lock) none refl z)
numbered Refused.Locked z = absurd (eqb-false (number_of Refused.Locked) none refl z)
numbered Refused.Items z = absurd (eqb-false (number_of Refused.Items) none refl z)
numbered Refused.Clarity z = absurd (eqb-false (number_of Refused.Clarity) none refl z)
numbered Refused.Palette z = absurd (eqb-false (number_of Refused.Palette) none refl z)
numbered Refused.Register z = absurd (eqb-false (number_of Refused.Register) none refl z)
numbered Refused.Range z = absurd (eqb-false (number_of Refused.Range) none refl z)
numbered Refused.Order z = absurd (eqb-false (number_of Refused.Order) none refl z)

module _ (f before : List ℕ) (r : PageRead) (e : r ≡ read_of f (length before)) where
  -- on a refusal the buffer is as it was
  pub refused_reads : (r.refusal ≡ none → ⊥) → Reads f before before r
  unfolding picture_of
  refused_reads h =
      let n : eqb (read_refusal f (length before)) none ≡ false = ne_eqb _ none (λ q. h (refusal_is f (length before) r e ∙ q)) in
      record { answer = e; buffer = rw n }

  -- and otherwise the file's first words stand at its front
  pub filled_reads : (after : List ℕ) → r.refusal ≡ none → after ≡ put 0 (words_from 0 (r.w * r.h) f) before → Reads f before after r
  unfolding picture_of
  filled_reads after z a =
      let n : read_refusal f (length before) ≡ none = sym (refusal_is f (length before) r e) ∙ z in
      let c = count_is f (length before) r e z in
      record { answer = e; buffer = rw (n, first_byte f (length before) n, sym c) a }
