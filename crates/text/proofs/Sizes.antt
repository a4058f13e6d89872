-- How long the text of a page can be, and that page3x's own buffers are long enough. Assumes nothing.
use mathlib.Core.Bool.{Bool, true, false, cond}
use mathlib.Core.List.{List}
use mathlib.Core.Path.{◌≡◌, refl, sym, ◌∙◌, ap}
use Prim.Native.Nat.{ℕ, zero, suc, ◌+◌, ◌-◌, ◌*◌, ◌<◌, ◌≤◌}
use native.Mathlib.Nat.{mul-one, mul_comm, mul-mul-mul_comm, suc-mul}
use native.Mathlib.Omega.{arith}
use lib.Dec.{ltb}
use lib.Ieee.{Float}
use lib.ListN.{length, take, drop, length-append, length-take}
use lib.Seq.{take_at}
use borrow.Author.Tests.{le-ltb, lt-ltb, eqb-false, ne_eqb}
use Rattle.page.proofs.Files.{Sound, not_refused, refusal_is, is_sound, w_is, h_is, count_is}
use Rattle.page.specs.Page.{PageRead, width, height, words_from, pixels, broken, wide, read_refusal, picture_of, Reads}
use Rattle.picture.specs.Fill.{put, flat, length_flat}
use Rattle.picture.specs.Picture.{words}
use Rattle.picture.specs.Refusal.{none, side, picture, trailer, long}
use Rattle.clarity.specs.declared.Clarity.TheVariants.{Standard}
use Rattle.whole.specs.Calls.{Scales}
use Rattle.enlarged.specs.Laws.{scale_length}
use Rattle.enlarged.specs.Whole.{scale_of}
use Rattle.text.specs.Text.{places, spaced, line, row, rows, sides_text, picture_text, enlarged_text, refused_text, program_refusal, text_of, Prints}
use Rattle.text.specs.Writes.{Writes}
use Rattle.text.proofs.Texts.{length_decimal, length_spaced, length_line, length_sides, length_refused}

-- what was put at the front of a list is its front
pub front : (n : ℕ) (s l : List ℕ) → length s ≡ n → take n (put 0 s l) ≡ s
unfolding put
front n s l e = take_at s (drop (0 + length s) l) n e

pub length_pixels : (f : List ℕ) → length (pixels f) ≡ width f * height f
unfolding pixels words_from
length_pixels f = length_flat 1 _ (λ i. refl) (width f * height f) ∙ mul-one (width f * height f)

-- ---- the longest text

places_small : (n : ℕ) → places n ≤ 4
places_small n = go (ltb n 10) (ltb n 100) (ltb n 1000)
  where
    go : (a b c : Bool) → cond {A = ℕ} a 1 (cond b 2 (cond c 3 4)) ≤ 4
    go true b c = omega arith
    go false true c = omega arith
    go false false true = omega arith
    go false false false = omega arith

flat_most : (k : ℕ) (r : ℕ → List ℕ) → ((i : ℕ) → length (r i) ≤ k) → (n : ℕ) → length (flat n r) ≤ n * k
flat_most k r h zero = omega arith
flat_most k r h (suc n) = rw length-append (omega (arith, flat_most k r h n, h n, suc-mul n k))

-- a row's line: nine bytes for each word, and one where there is none
line_most : (w y : ℕ) (ps : List ℕ) → length (line (spaced (row w ps y))) ≤ 9 * w - 1 + 1
unfolding row
line_most w y ps =
    let vs = take w (drop (y * w) ps) in
    omega (arith, length_line (spaced vs), length_spaced vs, length-take w (drop (y * w) ps))

rows_most : (w h : ℕ) (ps : List ℕ) → length (rows w h ps) ≤ h * (9 * w - 1 + 1)
unfolding rows
rows_most w h ps = flat_most (9 * w - 1 + 1) (λ y. line (spaced (row w ps y))) (λ y. line_most w y ps) h

-- ten bytes for the sides, 81 for each pixel; a page without columns has at most 6,144 empty lines
enlarged_rows : (w h : ℕ) → h ≤ 2048 → w * h ≤ 1024 → 3 * h * (9 * (3 * w) - 1 + 1) ≤ 82944
enlarged_rows zero h a b = rw (mul-one (3 * h)) (omega arith)
enlarged_rows (suc w) h a b =
    let e : 9 * (3 * suc w) - 1 + 1 ≡ 27 * suc w = omega arith in
    let p : 3 * h * (27 * suc w) ≡ 81 * (h * suc w) = mul-mul-mul_comm 3 h 27 (suc w) in
    rw (e, p) (omega (arith, mul_comm h (suc w)))

pub enlarged_most : (w h : ℕ) (ps : List ℕ) → h ≤ 2048 → w * h ≤ 1024 → length (enlarged_text w h ps) ≤ 82954
unfolding picture_text
enlarged_most w h ps a b =
    let out = scale_of Standard w h (words w ps) in
    omega (
      arith,
      length-append (sides_text (3 * w) (3 * h)) (rows (3 * w) (3 * h) out),
      length_sides (3 * w) (3 * h),
      length_decimal (3 * w),
      length_decimal (3 * h),
      places_small (3 * w),
      places_small (3 * h),
      rows_most (3 * w) (3 * h) out,
      enlarged_rows w h a b,
    )

pub refused_most : (n : ℕ) → length (refused_text n) ≤ 82954
refused_most n = omega (arith, length_refused n, length_decimal n, places_small n)

-- what `scale` leaves by the standard setting at the front of an output that is long enough, with buffers that are
pub scaled : (w h : ℕ) (p o o' b b' : List ℕ) (s s' : List Float) (r : ℕ) → w ≤ 2048 → h ≤ 2048 → w * h ≤ length p → 9 * (w * h) ≤ length o
    → 8 * (w * h) ≤ length s → 8 * (w * h) ≤ length b → Scales Standard w h p o s b o' s' b' r → take (9 * (w * h)) o' ≡ scale_of Standard w h (words w p)
scaled w h p o o' b b' s s' r hw hh hp ho hs hb g =
    let n = w * h in
    let none_now : r ≡ none =
    g.refusal_now
    ∙ rw (
      le-ltb 2048 w hw,
      le-ltb 2048 h hh,
      le-ltb (length p) n hp,
      le-ltb (length o) (9 * n) ho,
      le-ltb (length s) (8 * n) hs,
      le-ltb (length b) (8 * n) hb,
    ) in
    let out : o' ≡ put 0 (scale_of Standard w h (words w p)) o = g.output_now ∙ rw none_now in
    ap (take (9 * n)) out ∙ front (9 * n) (scale_of Standard w h (words w p)) o (scale_length Standard w h (words w p))

-- 3h rows of 3w words
pub nine : (w h : ℕ) → 3 * h * (3 * w) ≡ 9 * (w * h)
nine w h = mul-mul-mul_comm 3 h 3 w ∙ ap (λ (n : ℕ). 9 * n) (mul_comm h w)

-- ---- what is printed

-- a text that was printed lies in the buffer
pub inside_text : (f before after : List ℕ) (n : ℕ) → Prints f before after n → n ≤ length after
unfolding put
inside_text f before after n g =
    omega (arith, g.length_is, ap length g.text_is, length-append (text_of f) (drop (0 + length (text_of f)) before))

-- four bytes for each word and the trailer are at most 4,108
small_page : (f : List ℕ) → length f ≤ 4108 → broken f ≡ false → wide f ≡ false → (height f ≤ 2048) × (width f * height f ≤ 1024)
unfolding read_refusal
small_page f h p q =
    let n = width f * height f in
    let whole : Sound f n = not_refused f n (rw (p, q, le-ltb n n (omega arith))) in
    (whole.height_small, omega arith)

-- a picture buffer of 1,024 words is never short
pub never_short : (f : List ℕ) → length f ≤ 4108 → read_refusal f 1024 ≡ program_refusal f
unfolding read_refusal program_refusal
never_short f h = rw (le-ltb 4108 (length f) h) (go (broken f) (wide f) refl refl)
  where
    go : (b s : Bool) → broken f ≡ b → wide f ≡ s → cond b trailer (cond s side (cond (ltb 1024 (width f * height f)) picture none)) ≡ cond b trailer (cond s side none)
    go true s p q = refl
    go false true p q = refl
    go false false p q = rw (le-ltb 1024 (width f * height f) (small_page f h p q).1)

module _ (f text after : List ℕ) (n : ℕ) where
  pub prints_refused : (k : ℕ) → program_refusal f ≡ k → (k ≡ none → ⊥) → Writes 0 (refused_text k) text after n → Prints f text after n
  unfolding text_of
  prints_refused k e z g =
      let t : text_of f ≡ refused_text k = rw (e, ne_eqb k none z) in
      record { length_is = g.next_is ∙ omega (arith, ap length t); text_is = rw t g.text_is }

  prints_picture : program_refusal f ≡ none
      → Writes 0 (enlarged_text (width f) (height f) (pixels f)) text after n → Prints f text after n
  unfolding text_of
  prints_picture e g =
      let t : text_of f ≡ enlarged_text (width f) (height f) (pixels f) = rw e in
      record { length_is = g.next_is ∙ omega (arith, ap length t); text_is = rw t g.text_is }

  -- a file that is too long
  pub prints_long : 4108 < length f → Writes 0 (refused_text long) text after n → Prints f text after n
  unfolding program_refusal
  prints_long h g = prints_refused long (rw (lt-ltb 4108 (length f) h)) (eqb-false long none refl) g

-- a page that can be enlarged
pub record Ready (words : List ℕ) (r : PageRead) : Type 0 where
  pub w_small : r.w ≤ 2048
  pub h_small : r.h ≤ 2048
  pub few : r.w * r.h ≤ 1024
  pub long_enough : length (take (r.w * r.h) words) ≡ r.w * r.h

-- a file that was read into a picture buffer of 1,024 words
module _ (f before words : List ℕ) (r : PageRead) (room : length before ≡ 1024) (short : length f ≤ 4108) (g : Reads f before words r) where
  refusal_same : r.refusal ≡ program_refusal f
  refusal_same = refusal_is f (length before) r g.answer ∙ ap (read_refusal f) room ∙ never_short f short

  pub prints_number : (text after : List ℕ) (n : ℕ) → (r.refusal ≡ none → ⊥) → Writes 0 (refused_text r.refusal) text after n → Prints f text after n
  prints_number text after n z q = prints_refused f text after n r.refusal (sym refusal_same) z q

  module _ (z : r.refusal ≡ none) where
    -- what the page is found to be
    whole : Sound f (length before)
    whole = is_sound f (length before) r g.answer z

    count : r.w * r.h ≡ width f * height f
    count = count_is f (length before) r g.answer z

    words_are : take (r.w * r.h) words ≡ pixels f
    unfolding picture_of
    words_are =
        let e : read_refusal f (length before) ≡ none = sym (refusal_is f (length before) r g.answer) ∙ z in
        let b : words ≡ put 0 (pixels f) before = g.buffer ∙ rw e in
        ap (take (r.w * r.h)) b ∙ front (r.w * r.h) (pixels f) before (length_pixels f ∙ sym count)

    pub ready : Ready words r
    ready =
        record {
          w_small = omega (arith, w_is f (length before) r g.answer z, whole.width_small);
          h_small = omega (arith, h_is f (length before) r g.answer z, whole.height_small);
          few = omega (arith, count, whole.fits);
          long_enough = ap length words_are ∙ length_pixels f ∙ sym count;
        }

    pub prints_page : (text after : List ℕ) (n : ℕ)
        → Writes 0 (enlarged_text r.w r.h (take (r.w * r.h) words)) text after n → Prints f text after n
    prints_page text after n q =
        prints_picture f text after n (sym refusal_same ∙ z)
        (rw (words_are, w_is f (length before) r g.answer z, h_is f (length before) r g.answer z) at q)
