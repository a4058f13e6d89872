-- A block stored in an output of rows of ow words, over copies of its pixel. Definitions only.
use Rattle.std.specs.Prelude.{◌≡◌, Bool, cond, List, [], ◌∷◌, ℕ, ◌+◌, ◌*◌, ◌<◌, get_or, set}
use Rattle.picture.specs.Fill.{put}

-- row q of a block
abbrev pub third : ℕ → List ℕ → List ℕ
third q b = get_or b (3 * q) 0 ∷ get_or b (3 * q + 1) 0 ∷ get_or b (3 * q + 2) 0 ∷ []

-- a block's three rows, one below the other, the first word at `at`
unfoldable pub put_block : ℕ → ℕ → List ℕ → List ℕ → List ℕ
put_block ow at b l = put (at + 2 * ow) (third 2 b) (put (at + ow) (third 1 b) (put at (third 0 b) l))

-- three copies of the word c stand from `at` on
abbrev pub Copies : ℕ → ℕ → List ℕ → Type 0
Copies at c l = (j : ℕ) → j < 3 → get_or l (at + j) 0 ≡ c

-- the block at `at` is nine copies of the word c
pub record Plain (ow at c : ℕ) (l : List ℕ) : Type 0 where
  pub top : Copies at c l
  pub middle : Copies (at + ow) c l
  pub bottom : Copies (at + 2 * ow) c l

-- the word v stored at `at`, unless what stands there is to stay
abbrev pub stored_unless : Bool → ℕ → ℕ → List ℕ → List ℕ
stored_unless stays at v l = cond stays l (set l at v)
