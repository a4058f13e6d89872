-- Texts that the definitions make, computed. Assumes nothing.
use Rattle.std.specs.Prelude.{List, [], ◌∷◌, ◌++◌, ◌≡◌, refl, ℕ, replicate}
use Rattle.text.specs.Text.{hex, decimal, line, row, rows, sides_text, picture_text, refused_text}

-- 00112233
abbrev word : List ℕ
word = 0x30 ∷ 0x30 ∷ 0x31 ∷ 0x31 ∷ 0x32 ∷ 0x32 ∷ 0x33 ∷ 0x33 ∷ []

abbrev three_words : List ℕ
three_words = word ++ (0x20 ∷ word) ++ (0x20 ∷ word) ++ (0x0a ∷ [])

-- what is printed of a pixel, of no columns, of sides, of a word and of a refusal
pub record TextExamples : Type 0 where
  -- section 9's example: the nine words of one pixel
  pub one_pixel : picture_text 3 3 (replicate 9 0x00112233) ≡ 0x33 ∷ 0x20 ∷ 0x33 ∷ 0x0a ∷ (three_words ++ three_words ++ three_words)
  -- no columns and a row: three empty lines
  pub empty_lines : picture_text 0 3 [] ≡ 0x30 ∷ 0x20 ∷ 0x33 ∷ 0x0a ∷ 0x0a ∷ 0x0a ∷ 0x0a ∷ []
  -- the largest side, and digits above 9
  pub sides : sides_text 6144 0 ≡ 0x36 ∷ 0x31 ∷ 0x34 ∷ 0x34 ∷ 0x20 ∷ 0x30 ∷ 0x0a ∷ []
  pub letters : hex 0x89abcdef ≡ 0x38 ∷ 0x39 ∷ 0x61 ∷ 0x62 ∷ 0x63 ∷ 0x64 ∷ 0x65 ∷ 0x66 ∷ []
  -- refused 8
  pub refused_8 : refused_text 8 ≡ 0x72 ∷ 0x65 ∷ 0x66 ∷ 0x75 ∷ 0x73 ∷ 0x65 ∷ 0x64 ∷ 0x20 ∷ 0x38 ∷ 0x0a ∷ []

pub text_examples : TextExamples
unfolding picture_text sides_text rows row line decimal hex refused_text
text_examples = record {
  one_pixel = refl;
  empty_lines = refl;
  sides = refl;
  letters = refl;
  refused_8 = refl;
}
