-- What holds of the entry nearest to a word and of the replaced picture, for all palettes, words and pictures. Definitions only;
-- `proofs/Laws.antt` proves it.
use Rattle.std.specs.Prelude.{◌≡◌, List, ℕ, ◌≤◌, ◌<◌, length, get_or}
use Rattle.colour.specs.Nearness.{nearness_of}
use Rattle.palette.specs.Palette.{nearest_of, replaced_of}

-- r is the palette's entry nearest to the word
pub record Nearest (palette : List ℕ) (word r : ℕ) : Type 0 where
  -- it is an entry, top byte and all
  pub place : ℕ
  pub inside : place < length palette
  pub entry : get_or palette place 0 ≡ r
  -- none has a smaller N
  pub least : (j : ℕ) → j < length palette → nearness_of r word ≤ nearness_of (get_or palette j 0) word
  -- it is the first of its equals: each entry before it has a larger N
  pub lowest : (j : ℕ) → j < place → nearness_of r word < nearness_of (get_or palette j 0) word

pub record NearestLaws : Type 0 where
  -- a palette of one entry or more has a nearest entry to every word, which is `nearest_of`, and no other one
  pub nearest : (palette : List ℕ) (word : ℕ) → 0 < length palette → Nearest palette word (nearest_of palette word)
  pub only : (palette : List ℕ) (word r : ℕ) → Nearest palette word r → r ≡ nearest_of palette word
  -- the replaced picture has the picture's n words, each replaced by the entry nearest to it
  pub as_many : (palette picture : List ℕ) (n : ℕ) → n ≤ length picture → length (replaced_of palette n picture) ≡ n
  pub each : (palette picture : List ℕ) (n i : ℕ) → n ≤ length picture → i < n
      → get_or (replaced_of palette n picture) i 0 ≡ nearest_of palette (get_or picture i 0)
