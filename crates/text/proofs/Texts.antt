-- Laws of the text's definitions: what is written piece by piece stands as a whole, and how long each piece is. Assumes nothing.
use mathlib.Core.List.{List, [], ◌∷◌, ◌++◌, append_assoc, append-nil}
use mathlib.Core.Path.{◌≡◌, refl, sym, ◌∙◌, ap}
use Prim.Native.Nat.{ℕ, zero, suc, ◌+◌, ◌-◌, ◌*◌, ◌/◌, ◌%◌, ◌<◌, ◌≤◌}
use native.Mathlib.Nat.{add-zero, zero-add}
use native.Mathlib.Numerals.{add-one}
use native.Mathlib.Omega.{arith}
use lib.Dec.{eqb-suc-zero}
use lib.ListN.{length, get_or, set, take, drop, length-append}
use lib.Seq.{take-suc, append_snoc, set_at, length-take-le}
use borrow.Author.Tests.{eq-eqb, ne_eqb}
use Rattle.page.proofs.Files.{set_put}
use Rattle.picture.specs.Fill.{put, flat, put_nil, put_put, length_put}
use Rattle.text.specs.Text.{digit, digits, hex, places, decimal, spaced, line, row, sides_text, refused, refused_text}
use Rattle.text.specs.Writes.{gap, Writes}

-- ---- writing on

-- v stored just before s, which was put
put_before : (b v : ℕ) (s l : List ℕ) → b < length l → set (put (b + 1) s l) b v ≡ put b (v ∷ s) l
unfolding put
put_before b v s l h =
    let e : b + 1 + length s ≡ b + suc (length s) = omega arith in
    let rest = s ++ drop (b + suc (length s)) l in
    rw (e, add-one, take-suc l b 0, append_snoc) (set_at (take b l) (get_or l b 0) rest v b (length-take-le b l (omega arith)))

pub writes_none : (at : ℕ) (l : List ℕ) → at ≤ length l → Writes at [] l l at
writes_none at l h = record { next_is = sym (add-zero at); text_is = sym (put_nil at l h) }

pub writes_more : (at : ℕ) (s t before mid after : List ℕ) (n e : ℕ) → at + (length s + length t) ≤ length before
    → Writes at s before mid n → Writes n t mid after e → Writes at (s ++ t) before after e
writes_more at s t before mid after n e room f g =
    record {
      next_is = g.next_is ∙ omega (arith, f.next_is, length-append s t);
      text_is = g.text_is ∙ ap (λ (i : ℕ). put i t mid) f.next_is ∙ ap (put (at + length s) t) f.text_is ∙ put_put at s t before room;
    }

pub writes_long : (at : ℕ) (s before after : List ℕ) (n : ℕ) → at + length s ≤ length before → Writes at s before after n → length after ≡ length before
writes_long at s before after n room f = ap length f.text_is ∙ length_put at s before room

-- the same text under another name
pub writes_as : (at : ℕ) (s t before after : List ℕ) (n : ℕ) → s ≡ t → Writes at s before after n → Writes at t before after n
writes_as at s t before after n e f = rw e at f

-- one byte stored
pub writes_byte : (at v : ℕ) (l : List ℕ) → at + 1 ≤ length l → Writes at (v ∷ []) l (set l at v) (at + 1)
writes_byte at v l h = record { next_is = refl; text_is = set_put l at v (omega arith) }

-- one chunk more of a run of chunks
flat_add : (r : ℕ → List ℕ) (k n : ℕ) → length (flat k r) ≤ length (flat (n + k) r)
flat_add r k zero = omega (arith, ap (λ (m : ℕ). length (flat m r)) (zero-add k))
flat_add r k (suc n) =
    let e : suc n + k ≡ suc (n + k) = omega arith in
    rw (e, length-append) (omega (arith, flat_add r k n))

pub flat_room : (r : ℕ → List ℕ) (k n : ℕ) → k < n → length (flat k r) + length (r k) ≤ length (flat n r)
flat_room r k n h =
    let e : n - suc k + suc k ≡ n = omega arith in
    omega (arith, length-append (flat k r) (r k), flat_add r (suc k) (n - suc k), ap (λ (m : ℕ). length (flat m r)) e)

pub writes_flat : (at : ℕ) (r : ℕ → List ℕ) (k n : ℕ) (before mid after : List ℕ) (m e : ℕ) → k < n → at + length (flat n r) ≤ length before
    → Writes at (flat k r) before mid m → Writes m (r k) mid after e → Writes at (flat (k + 1) r) before after e
writes_flat at r k n before mid after m e h room f g =
    rw add-one (writes_more at (flat k r) (r k) before mid after m e (omega (arith, flat_room r k n h)) f g)

-- ---- digits

pub length_digits : (base k n : ℕ) → length (digits base k n) ≡ k
length_digits base zero n = refl
length_digits base (suc k) n = rw length-append (omega (arith, length_digits base k (n / base)))

pub length_hex : (n : ℕ) → length (hex n) ≡ 8
unfolding hex
length_hex n = length_digits 16 8 n

pub length_decimal : (n : ℕ) → length (decimal n) ≡ places n
unfolding decimal
length_decimal n = length_digits 10 (places n) n

-- digits that are written from the last on: `tail` stands, and i digits of `rest` are to come
pub record Spelling (base k n at i rest : ℕ) (before text : List ℕ) : Type 0 where
  pub tail : List ℕ
  pub all : digits base k n ≡ digits base i rest ++ tail
  pub count : i + length tail ≡ k
  pub text_is : text ≡ put (at + i) tail before

pub spell_none : (base k n at : ℕ) (l : List ℕ) → at + k ≤ length l → Spelling base k n at k n l l
spell_none base k n at l h =
    record { tail = []; all = sym (append-nil (digits base k n)); count = add-zero k; text_is = sym (put_nil (at + k) l h) }

pub spell_more : (base k n at i j rest : ℕ) (before text : List ℕ) → at + k ≤ length before → i ≡ suc j → Spelling base k n at i rest before text
    → Spelling base k n at j (rest / base) before (set text (at + j) (digit (rest % base)))
spell_more base k n at i j rest before text h e f =
    let d = digit (rest % base) in
    let p : at + i ≡ at + j + 1 = omega arith in
    record {
      tail = d ∷ f.tail;
      all = f.all ∙ ap (λ (m : ℕ). digits base m rest ++ f.tail) e ∙ append_snoc (digits base j (rest / base)) d f.tail;
      count = omega (arith, f.count);
      text_is =
          ap (λ (l : List ℕ). set l (at + j) d) f.text_is
          ∙ ap (λ (m : ℕ). set (put m f.tail before) (at + j) d) p
          ∙ put_before (at + j) d f.tail before (omega (arith, f.count));
    }

pub spell_done : (base k n at i rest r : ℕ) (before text : List ℕ) → i ≤ 0 → r ≡ at + k → Spelling base k n at i rest before text
    → Writes at (digits base k n) before text r
spell_done base k n at i rest r before text h q f =
    let z : i ≡ 0 = omega arith in
    let e : digits base k n ≡ f.tail = f.all ∙ ap (λ (m : ℕ). digits base m rest ++ f.tail) z in
    let p : at + i ≡ at = omega arith in
    record {
      next_is = q ∙ ap (λ (m : ℕ). at + m) (sym (length_digits base k n));
      text_is = f.text_is ∙ ap (λ (m : ℕ). put m f.tail before) p ∙ ap (λ (s : List ℕ). put at s before) (sym e);
    }

-- ---- a row

pub length_line : (s : List ℕ) → length (line s) ≡ length s + 1
unfolding line
length_line s = length-append s (0x0a ∷ [])

pub length_spaced : (vs : List ℕ) → length (spaced vs) ≡ 9 * length vs - 1
length_spaced [] = refl
length_spaced (v ∷ []) = length_hex v
length_spaced (v ∷ u ∷ vs) = rw length-append (omega (arith, length_hex v, length_spaced (u ∷ vs)))

gap_suc : (n : ℕ) → gap (suc n) ≡ 0x20 ∷ []
gap_suc n = rw (eqb-suc-zero n)

pub gap_first : (i v : ℕ) → i ≡ 0 → gap i ++ hex v ≡ hex v
gap_first i v e = rw (eq-eqb i 0 e)

pub gap_later : (i v : ℕ) → (i ≡ 0 → ⊥) → gap i ++ hex v ≡ 0x20 ∷ hex v
gap_later i v e = rw (ne_eqb i 0 e)

-- the next word of a row
spaced_snoc : (vs : List ℕ) (v : ℕ) → spaced (vs ++ (v ∷ [])) ≡ spaced vs ++ (gap (length vs) ++ hex v)
spaced_snoc [] v = refl
spaced_snoc (u ∷ []) v = refl
spaced_snoc (u ∷ t ∷ vs) v =
    let e = spaced_snoc (t ∷ vs) v in
    rw (gap_suc (suc (length vs)), append_assoc) (ap (λ (s : List ℕ). hex u ++ (0x20 ∷ s)) (rw (gap_suc (length vs)) at e))

pub spaced_more : (vs : List ℕ) (i : ℕ) → i < length vs → spaced (take (i + 1) vs) ≡ spaced (take i vs) ++ (gap i ++ hex (get_or vs i 0))
spaced_more vs i h =
    rw (add-one, take-suc vs i 0, spaced_snoc) (ap (λ (n : ℕ). spaced (take i vs) ++ (gap n ++ hex (get_or vs i 0))) (length-take-le i vs (omega arith)))

-- a row whose first i words are written: how much that is, and that there is room for the next
pub length_begun : (ws : List ℕ) (i : ℕ) → i ≤ length ws → length (spaced (take i ws)) ≡ 9 * i - 1
length_begun ws i h = length_spaced (take i ws) ∙ ap (λ (n : ℕ). 9 * n - 1) (length-take-le i ws h)

length_word : (i v : ℕ) → 9 * i - 1 + length (gap i ++ hex v) ≡ 9 * (i + 1) - 1
length_word zero v = omega (arith, length_hex v)
length_word (suc i) v = rw (gap_suc i) (omega (arith, length_hex v))

pub word_room : (ws : List ℕ) (i : ℕ) → i < length ws → length (spaced (take i ws)) + length (gap i ++ hex (get_or ws i 0)) ≤ length (spaced ws)
word_room ws i h = omega (arith, length_begun ws i (omega arith), length_word i (get_or ws i 0), length_spaced ws)

pub writes_word : (at i : ℕ) (ws before mid after : List ℕ) (m e : ℕ) → i < length ws → at + length (spaced ws) ≤ length before
    → Writes at (spaced (take i ws)) before mid m → Writes m (gap i ++ hex (get_or ws i 0)) mid after e → Writes at (spaced (take (i + 1) ws)) before after e
writes_word at i ws before mid after m e h room f g =
    rw (spaced_more ws i)
    (writes_more at (spaced (take i ws)) (gap i ++ hex (get_or ws i 0)) before mid after m e (omega (arith, word_room ws i h)) f g)

-- the words of row y, by the place where it begins
pub row_at : (w y from : ℕ) (ps : List ℕ) → from ≡ y * w → take (from + w - from) (drop from ps) ≡ row w ps y
unfolding row
row_at w y from ps e =
    let n : from + w - from ≡ w = omega arith in
    ap (λ (k : ℕ). take k (drop from ps)) n ∙ ap (λ (k : ℕ). take w (drop k ps)) e

-- ---- lines that are written piece by piece

pub length_sides : (w h : ℕ) → length (sides_text w h) ≡ length (decimal w) + (1 + (length (decimal h) + 1))
unfolding sides_text
length_sides w h = length_line _ ∙ omega (arith, length-append (decimal w) (0x20 ∷ decimal h))

pub writes_sides : (at w h : ℕ) (l l₁ l₂ l₃ l₄ : List ℕ) (n₁ n₂ n₃ n₄ : ℕ) → at + length (sides_text w h) ≤ length l → Writes at (decimal w) l l₁ n₁
    → Writes n₁ (0x20 ∷ []) l₁ l₂ n₂ → Writes n₂ (decimal h) l₂ l₃ n₃ → Writes n₃ (0x0a ∷ []) l₃ l₄ n₄ → Writes at (sides_text w h) l l₄ n₄
unfolding sides_text line
writes_sides at w h l l₁ l₂ l₃ l₄ n₁ n₂ n₃ n₄ room a b c d =
    let u = decimal w in
    let v = decimal h in
    let k = length_sides w h in
    let e = length-append u (0x20 ∷ v) in
    let f = length-append (u ++ (0x20 ∷ [])) v in
    let g = length-append u (0x20 ∷ []) in
    writes_more at (u ++ (0x20 ∷ v)) (0x0a ∷ []) l l₃ l₄ n₃ n₄ (omega arith)
    (rw append_snoc at (writes_more at (u ++ (0x20 ∷ [])) v l l₂ l₃ n₂ n₃ (omega arith) (writes_more at u (0x20 ∷ []) l l₁ l₂ n₁ n₂ (omega arith) a b) c))
    d

pub length_refused : (n : ℕ) → length (refused_text n) ≡ 8 + (length (decimal n) + 1)
unfolding refused_text
length_refused n = length_line _ ∙ omega arith

pub writes_refused : (n : ℕ) (l l₁ l₂ l₃ : List ℕ) (n₁ n₂ n₃ : ℕ) → length (refused_text n) ≤ length l
    → Writes 0 (refused ++ (0x20 ∷ [])) l l₁ n₁ → Writes n₁ (decimal n) l₁ l₂ n₂ → Writes n₂ (0x0a ∷ []) l₂ l₃ n₃
    → Writes 0 (refused_text n) l l₃ n₃
unfolding refused_text line
writes_refused n l l₁ l₂ l₃ n₁ n₂ n₃ room a b c =
    let s = refused ++ (0x20 ∷ []) in
    let k = length_refused n in
    writes_more 0 (s ++ decimal n) (0x0a ∷ []) l l₂ l₃ n₂ n₃ (omega arith) (writes_more 0 s (decimal n) l l₁ l₂ n₁ n₂ (omega arith) a b) c
