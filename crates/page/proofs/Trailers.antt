-- Laws of a trailer's definitions: a part of a file byte by byte, and what the trailer says by the tests that lead to it. Assumes nothing.
use mathlib.Core.Bool.{Bool, true, false, cond, not, ◌&&◌, ◌||◌, true≢false}
use mathlib.Core.List.{List, [], ◌∷◌}
use mathlib.Core.Path.{◌≡◌, refl, sym, ◌∙◌, ap}
use Prim.Native.Nat.{ℕ, suc, ◌+◌, ◌-◌, ◌*◌, ◌<◌, ◌≤◌}
use native.Mathlib.Omega.{arith}
use native.Mathlib.Numerals.{add-one}
use lib.Dec.{eqb, ltb}
use lib.ListN.{length, get_or}
use lib.Seq.{drop-cons}
use borrow.Author.Tests.{lt-ltb, le-ltb, eq-eqb, ne_eqb, eqb-true, eqb-false}
use Rattle.picture.proofs.Bools.{or_left, or_right}
use Rattle.picture.specs.Refusal.{none, trailer}
use Rattle.page.specs.Page.{little_endian, part, width, height, back, mark, page, same, bad_trailer, trailer_of}
use Rattle.std.specs.Prelude.{None, Some}
use Rattle.std.specs.Int.{w16, w32, from_le_bytes}
use Rattle.page.specs.declared.Trailer.{Trailer as Found}
use Rattle.page.specs.Page.{Trailer}
use Rattle.page.specs.Answers.{trailer_answer}

part_none : (i : ℕ) (f : List ℕ) → part i 0 f ≡ []
unfolding part
part_none i f = refl

part_cons : (i n : ℕ) (f : List ℕ) → i < length f → part i (suc n) f ≡ get_or f i 0 ∷ part (i + 1) n f
unfolding part
part_cons i n f h = rw (drop-cons f i 0, add-one)

two : (i : ℕ) (f : List ℕ) → i + 2 ≤ length f → part i 2 f ≡ get_or f i 0 ∷ get_or f (i + 1) 0 ∷ []
two i f h =
    let e : i + 1 < length f = omega arith in
    let z : i < length f = omega arith in
    rw (part_cons i 1 f, part_cons (i + 1) 0 f, part_none)

four : (i : ℕ) (f : List ℕ) → i + 4 ≤ length f → part i 4 f ≡ get_or f i 0 ∷ get_or f (i + 1) 0 ∷ part (i + 2) 2 f
four i f h =
    let e : i + 1 < length f = omega arith in
    let z : i < length f = omega arith in
    let q : i + 1 + 1 ≡ i + 2 = omega arith in
    rw (part_cons i 3 f, part_cons (i + 1) 2 f, q)

pub half_of : (i : ℕ) (f : List ℕ) → i + 2 ≤ length f → little_endian (part i 2 f) ≡ get_or f i 0 + 256 * get_or f (i + 1) 0
half_of i f h = rw two (omega arith)

pub word_of : (i : ℕ) (f : List ℕ) → i + 4 ≤ length f
    → little_endian (part i 4 f) ≡ get_or f i 0 + 256 * get_or f (i + 1) 0 + 65536 * (get_or f (i + 2) 0 + 256 * get_or f (i + 3) 0)
word_of i f h =
    let q : i + 2 + 1 ≡ i + 3 = omega arith in
    let t : i + 2 + 2 ≤ length f = omega arith in
    rw (four, two (i + 2) f, q) (omega arith)

-- the library's reading of bytes, the low one first
pub half_bytes : (a b : ℕ) → from_le_bytes w16 (a ∷ b ∷ []) ≡ a + 256 * b
half_bytes a b = omega arith

pub word_bytes : (a b c d : ℕ) → from_le_bytes w32 (a ∷ b ∷ c ∷ d ∷ []) ≡ a + 256 * b + 65536 * (c + 256 * d)
word_bytes a b c d = omega arith

-- a page's mark, byte by byte and as a number
same_number : (s t : List ℕ) → same s t ≡ true → little_endian s ≡ little_endian t
same_number [] [] e = refl
same_number [] (b ∷ t) e = absurd (true≢false (sym e))
same_number (a ∷ s) [] e = absurd (true≢false (sym e))
same_number (a ∷ s) (b ∷ t) e = by_test (eqb a b) refl e (λ q. same_number s t q)
  where
    by_test : (q : Bool) → eqb a b ≡ q → q && same s t ≡ true → (same s t ≡ true → little_endian s ≡ little_endian t) → a + 256 * little_endian s ≡ b + 256 * little_endian t
    by_test true p z ih = omega (arith, eqb-true a b p, ih z)
    by_test false p z ih = absurd (true≢false (sym z))

-- four bytes that hold the mark's number are the mark's bytes
spelled : (a b c d : ℕ) → a < 256 → b < 256 → c < 256 → d < 256 → a + 256 * (b + 256 * (c + 256 * (d + 256 * 0))) ≡ 0x45474150 → same (a ∷ b ∷ c ∷ d ∷ []) page ≡ true
spelled a b c d ha hb hc hd e =
    rw (eq-eqb a 0x50 (omega arith), eq-eqb b 0x41 (omega arith), eq-eqb c 0x47 (omega arith), eq-eqb d 0x45 (omega arith))

module _ (f : List ℕ) where
  -- each way to a bad trailer
  pub short : length f < 12 → bad_trailer f ≡ true
  unfolding bad_trailer
  short h = or_left _ _ (or_left _ _ (lt-ltb (length f) 12 h))

  pub unmarked : (m : ℕ) → m ≡ little_endian (mark f) → (m ≡ 0x45474150 → ⊥) → bad_trailer f ≡ true
  unfolding bad_trailer
  unmarked m e h = or_left _ _ (or_right (ltb (length f) 12) _ (go (same (mark f) page) refl))
    where
      go : (t : Bool) → same (mark f) page ≡ t → not t ≡ true
      go true q = absurd (h (e ∙ same_number (mark f) page q))
      go false q = refl

  pub wrong : (back f ≡ 12 + 4 * (width f * height f) → ⊥) → bad_trailer f ≡ true
  unfolding bad_trailer
  wrong h = or_right (ltb (length f) 12 || not (same (mark f) page)) _ (ap not (ne_eqb (back f) (12 + 4 * (width f * height f)) h))

  -- and none
  pub right : 12 ≤ length f → ((i : ℕ) → get_or f i 0 < 256) → little_endian (mark f) ≡ 0x45474150 → back f ≡ 12 + 4 * (width f * height f) → bad_trailer f ≡ false
  unfolding bad_trailer mark
  right h b m e =
      let i = length f - 4 in
      let q : part i 4 f ≡ get_or f i 0 ∷ get_or f (i + 1) 0 ∷ get_or f (i + 2) 0 ∷ get_or f (i + 2 + 1) 0 ∷ [] =
      four i f (omega arith) ∙ ap (λ (s : List ℕ). get_or f i 0 ∷ get_or f (i + 1) 0 ∷ s) (two (i + 2) f (omega arith)) in
      let s = spelled (get_or f i 0) (get_or f (i + 1) 0) (get_or f (i + 2) 0) (get_or f (i + 2 + 1) 0) (b i) (b (i + 1)) (b (i + 2)) (b (i + 2 + 1)) (rw q at m) in
      rw (le-ltb (length f) 12 h, q, s, eq-eqb (back f) (12 + 4 * (width f * height f)) e)

  -- the trailer's answer, bad or not
  module _ (r : Trailer) where
    pub is_bad : r ≡ record { refusal = trailer; w = 0; h = 0; back = 0 } → bad_trailer f ≡ true → r ≡ trailer_of f
    unfolding trailer_of
    is_bad e b = rw b e

    pub is_right : r ≡ record { refusal = none; w = width f; h = height f; back = back f } → bad_trailer f ≡ false → r ≡ trailer_of f
    unfolding trailer_of
    is_right e b = rw b e

-- what a trailer that is not bad says
pub record Says (f : List ℕ) (t : Found) : Type 0 where
  pub right_now : bad_trailer f ≡ false
  pub w_now : t.w ≡ width f
  pub h_now : t.h ≡ height f
  pub back_now : t.back ≡ back f

-- the number by itself
number_of_trailer : (f : List ℕ) (r : Trailer) → r ≡ trailer_of f → r.refusal ≡ cond (bad_trailer f) trailer none
unfolding trailer_of
number_of_trailer f r e = ap (λ (q : Trailer). q.refusal) e

pub says_bad : (f : List ℕ) → trailer_answer None ≡ trailer_of f → bad_trailer f ≡ true
says_bad f e = go (bad_trailer f) refl
  where
    go : (b : Bool) → bad_trailer f ≡ b → bad_trailer f ≡ true
    go true q = q
    go false q = absurd (eqb-false trailer none refl (number_of_trailer f _ e ∙ rw q))

pub says_right : (f : List ℕ) (t : Found) → trailer_answer (Some t) ≡ trailer_of f → Says f t
unfolding trailer_of
says_right f t e = go (bad_trailer f) refl
  where
    go : (b : Bool) → bad_trailer f ≡ b → Says f t
    go true q = absurd (eqb-false trailer none refl (sym (number_of_trailer f _ e ∙ rw q)))
    go false q =
        record {
          right_now = q;
          w_now = ap (λ (r : Trailer). r.w) e ∙ rw q;
          h_now = ap (λ (r : Trailer). r.h) e ∙ rw q;
          back_now = ap (λ (r : Trailer). r.back) e ∙ rw q;
        }
