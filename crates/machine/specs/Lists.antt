-- Operations on lists, for the machine and the calls. Definitions only.
use Rattle.std.specs.Prelude.{Bool, true, false, cond, ◌||◌, List, [], ◌∷◌, ℕ, zero, suc, eqb, set}

module _ {ℓ} {A : Type ℓ} where
  -- f at 0, 1, .., n - 1
  abbrev pub table : ℕ → (ℕ → A) → List A
  table zero f = []
  table (suc n) f = f 0 ∷ table n (λ k. f (suc k))

  -- v stored at each index that passes the test; the list's first element has the index i
  abbrev pub stamp_from : ℕ → (ℕ → Bool) → A → List A → List A
  stamp_from i test v [] = []
  stamp_from i test v (x ∷ l) = cond (test i) v x ∷ stamp_from (suc i) test v l

  abbrev pub stamp : (ℕ → Bool) → A → List A → List A
  stamp test v l = stamp_from 0 test v l

  -- v stored at each of some indices
  abbrev pub set_all : List ℕ → A → List A → List A
  set_all [] v l = l
  set_all (b ∷ bs) v l = set_all bs v (set l b v)

-- whether i is one of some indices
abbrev pub has : List ℕ → ℕ → Bool
has [] i = false
has (b ∷ bs) i = has bs i || eqb i b

-- how many are true
abbrev pub count : List Bool → ℕ
count [] = 0
count (true ∷ l) = suc (count l)
count (false ∷ l) = count l

-- the indices of the first n that are true, or of all where they are fewer, in order; the list's first element has the index i
abbrev pub first_from : ℕ → ℕ → List Bool → List ℕ
first_from i n [] = []
first_from i zero (t ∷ l) = []
first_from i (suc n) (true ∷ l) = i ∷ first_from (suc i) n l
first_from i (suc n) (false ∷ l) = first_from (suc i) (suc n) l

abbrev pub first : ℕ → List Bool → List ℕ
first n l = first_from 0 n l
