-- What the functions that write the text piece by piece cite. Definitions only.
use Rattle.std.specs.Prelude.{cond, List, [], ◌∷◌, ◌≡◌, ℕ, ◌+◌, eqb, length}
use Rattle.picture.specs.Fill.{put}

-- s stands in the text from `at` on, the rest is as it was, and the place after s is answered.
pub record Writes (at : ℕ) (s before after : List ℕ) (next : ℕ) : Type 0 where
  pub next_is : next ≡ at + length s
  pub text_is : after ≡ put at s before

-- what stands before word i of a row
abbrev pub gap : ℕ → List ℕ
gap i = cond (eqb i 0) [] (0x20 ∷ [])
