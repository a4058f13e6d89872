-- Request 8: what holds of every whole-picture call with a palette, three-times and nine-times, each being bound by its contract alone.
-- Definitions only; `proofs/Theorem.antt` proves it.
use Rattle.std.specs.Prelude.{◌≡◌, ◌⊎◌, List, ℕ, ◌+◌, ◌*◌, ◌≤◌, ◌<◌, Float, length, get_or, take, drop}
use Rattle.picture.specs.Refusal as Refusal
use Rattle.clarity.specs.declared.Clarity.{Clarity}
use Rattle.sizes.specs.Sizes.{refusal3, refusal9}
use Rattle.whole.specs.Calls.{Scales, Scales9}
use Rattle.palette.specs.Claims.{Nearest, NearestLaws}
use Rattle.whole_palette.specs.Calls.{ScalesBy, ScalesBy9}

-- the picture p of n words, replaced in the lent buffer, x before and x' after
pub record Replaces (n : ℕ) (p palette x x' : List ℕ) : Type 0 where
  -- at each place stands the whole word of the entry that is nearest to the picture's
  pub each : (i : ℕ) → i < n → Nearest palette (get_or p i 0) (get_or x' i 0)
  -- no other word of the buffer is written
  pub long : length x' ≡ length x
  pub past : drop n x' ≡ drop n x

-- the refusal r, f being that of the same call without a palette
pub record InTurn (f n : ℕ) (palette x : List ℕ) (r : ℕ) : Type 0 where
  -- 1, 2, 3 and 4 come first
  pub first : (f ≡ Refusal.none → ⊥) → (f ≡ Refusal.clarity → ⊥) → r ≡ f
  -- then a buffer of the replaced picture that is too short, by 4 too
  pub short : (f ≡ Refusal.none) ⊎ (f ≡ Refusal.clarity) → length x < n → r ≡ 4
  -- then the setting, by 13
  pub setting : f ≡ Refusal.clarity → n ≤ length x → r ≡ 13
  -- last the palette, by 14: one without entries, and one of more than 256
  pub empty : f ≡ Refusal.none → n ≤ length x → length palette ≡ 0 → r ≡ 14
  pub over : f ≡ Refusal.none → n ≤ length x → 256 < length palette → r ≡ 14
  -- every other call is taken
  pub taken : f ≡ Refusal.none → n ≤ length x → 0 < length palette → length palette ≤ 256 → r ≡ 0

-- a word of the palette, top byte and all
pub record EntryOf (palette : List ℕ) (word : ℕ) : Type 0 where
  pub place : ℕ
  pub inside : place < length palette
  pub is : word ≡ get_or palette place 0

-- a three-times call: picture, palette, replaced, output, singles, bytes at entry; the last four at exit; the answer r
pub record By3 (q : Clarity) (w h : ℕ) (p palette x o : List ℕ) (s : List Float) (b : List ℕ)
    (x' o' : List ℕ) (s' : List Float) (b' : List ℕ) (r : ℕ) : Type 0 where
  pub replaces : r ≡ 0 → Replaces (w * h) p palette x x'
  -- what is enlarged is the replaced picture: the call is one of `scale` on it, with all that this promises
  pub enlarges : r ≡ 0 → Scales q w h (take (w * h) x') o s b o' s' b' r
  -- so every word of the output is an entry
  pub entries_only : r ≡ 0 → (column row : ℕ) → column < 3 * w → row < 3 * h → EntryOf palette (get_or o' (row * (3 * w) + column) 0)
  pub refuses : InTurn (refusal3 q w h p o s b) (w * h) palette x r
  -- a refused call leaves every buffer as it was, and so does one of a picture that has no pixel
  pub keeps : (r ≡ 0 → ⊥) → (x' ≡ x) × (o' ≡ o) × (s' ≡ s) × (b' ≡ b)
  pub nothing : r ≡ 0 → w * h ≡ 0 → (x' ≡ x) × (o' ≡ o) × (s' ≡ s) × (b' ≡ b)

-- a nine-times call, with the middle m
pub record By9 (q : Clarity) (w h : ℕ) (p palette x o m : List ℕ) (s : List Float) (b : List ℕ)
    (x' o' m' : List ℕ) (s' : List Float) (b' : List ℕ) (r : ℕ) : Type 0 where
  pub replaces : r ≡ 0 → Replaces (w * h) p palette x x'
  pub enlarges : r ≡ 0 → Scales9 q w h (take (w * h) x') o m s b o' m' s' b' r
  pub entries_only : r ≡ 0 → (column row : ℕ) → column < 9 * w → row < 9 * h → EntryOf palette (get_or o' (row * (9 * w) + column) 0)
  pub refuses : InTurn (refusal9 q w h p o m s b) (w * h) palette x r
  pub keeps : (r ≡ 0 → ⊥) → (x' ≡ x) × (o' ≡ o) × (m' ≡ m) × (s' ≡ s) × (b' ≡ b)
  pub nothing : r ≡ 0 → w * h ≡ 0 → (x' ≡ x) × (o' ≡ o) × (m' ≡ m) × (s' ≡ s) × (b' ≡ b)

pub record PaletteLaws : Type 0 where
  -- of the entries: none has a smaller N than the nearest, which is the first of its equals, and no other one is so; of the replaced picture:
  -- each word
  pub entries : NearestLaws
  pub three : {q : Clarity} {w h : ℕ} {p palette x o : List ℕ} {s : List Float} {b x' o' : List ℕ} {s' : List Float} {b' : List ℕ} {r : ℕ}
      → ScalesBy q w h p palette x o s b x' o' s' b' r → By3 q w h p palette x o s b x' o' s' b' r
  pub nine : {q : Clarity} {w h : ℕ} {p palette x o m : List ℕ} {s : List Float} {b x' o' m' : List ℕ} {s' : List Float} {b' : List ℕ} {r : ℕ}
      → ScalesBy9 q w h p palette x o m s b x' o' m' s' b' r → By9 q w h p palette x o m s b x' o' m' s' b' r
