-- Files and what the definitions make of them, computed. Assumes nothing.
use Rattle.std.specs.Prelude.{List, [], ◌∷◌, ◌++◌, ◌≡◌, refl, ℕ, drop}
use Rattle.picture.specs.Refusal.{side, trailer}
use Rattle.page.specs.Page.{read_of, pixels, read_refusal, bad_trailer, broken, wide, width, height, back, mark, part, words_from}

-- one pixel
abbrev one : List ℕ
one = 0x33 ∷ 0x22 ∷ 0x11 ∷ 0x00 ∷ 0x01 ∷ 0x00 ∷ 0x01 ∷ 0x00 ∷ 0x10 ∷ 0x00 ∷ 0x00 ∷ 0x00 ∷ 0x50 ∷ 0x41 ∷ 0x47 ∷ 0x45 ∷ []

-- a page of 2,049 columns and no rows
abbrev none_wide : List ℕ
none_wide = 0x01 ∷ 0x08 ∷ 0x00 ∷ 0x00 ∷ 0x0c ∷ 0x00 ∷ 0x00 ∷ 0x00 ∷ 0x50 ∷ 0x41 ∷ 0x47 ∷ 0x45 ∷ []

-- what is read of these files and of others made of them
pub record FileExamples : Type 0 where
  pub read_one : read_of one 1 ≡ record { refusal = 0; w = 1; h = 1 }
  pub one_word : pixels one ≡ 0x00112233 ∷ []
  -- refused are a byte before the first pixel, the first byte cut off, and two pages glued together
  pub after_a_byte : read_refusal (0xff ∷ one) 1 ≡ trailer
  pub without_a_byte : read_refusal (drop 1 one) 1 ≡ trailer
  pub glued : read_refusal (one ++ one) 1 ≡ trailer
  -- sides of 32,768 and back of 12: four times their product would wrap to 0 in 32 bits
  pub wrapped : read_refusal (0x00 ∷ 0x80 ∷ 0x00 ∷ 0x80 ∷ 0x0c ∷ 0x00 ∷ 0x00 ∷ 0x00 ∷ 0x50 ∷ 0x41 ∷ 0x47 ∷ 0x45 ∷ []) 1 ≡ trailer
  -- 8 goes before 1: a byte before a page that is too wide
  pub in_order : (read_refusal (0xff ∷ none_wide) 1 ≡ trailer) × (read_refusal none_wide 1 ≡ side)

pub file_examples : FileExamples
unfolding read_of read_refusal broken bad_trailer wide width height back mark part pixels words_from
file_examples = record {
  read_one = refl;
  one_word = refl;
  after_a_byte = refl;
  without_a_byte = refl;
  glued = refl;
  wrapped = refl;
  in_order = (refl, refl);
}
