-- Words stored three times side by side, in three rows of an output. Definitions only.
use Rattle.std.specs.Prelude.{List, [], ◌∷◌, ℕ, ◌+◌, ◌*◌}
use Rattle.picture.specs.Fill.{put, flat}

-- each of k words c three times, side by side
abbrev pub thrice : ℕ → (ℕ → ℕ) → List ℕ
thrice k c = flat k (λ i. c i ∷ c i ∷ c i ∷ [])

-- the words s in three rows of the output, one below the other, the first at `at`
abbrev pub thrice_below : ℕ → ℕ → List ℕ → List ℕ → List ℕ
thrice_below ow at s l = put (at + 2 * ow) s (put (at + ow) s (put at s l))
