-- A list of paints, as a call that has no list takes it: an array of 64 with the first of them, and how many there are. Definitions only.
use Rattle.std.specs.Prelude.{cond, List, ◌++◌, ℕ, zero, suc, ◌-◌, ltb, get_or, set, take, replicate}
use Rattle.paints.specs.declared.Paint.{Paint}

-- the most items that a list may have
abbrev pub limit : ℕ
limit = 64

-- a paint of zeros, and an array of them
abbrev pub blank : Paint
blank = record { column = 0; row = 0; word = 0 }

unfoldable pub blanks : List Paint
blanks = replicate limit blank

-- the first m items of a list, put over the zeros
abbrev pub gathered : List Paint → ℕ → List Paint
gathered items zero = blanks
gathered items (suc m) = set (gathered items m) m (get_or items m blank)

-- how many of n items are gathered
abbrev pub few_of : ℕ → ℕ
few_of n = cond (ltb limit n) limit n

-- the list of n items that an array with the first of them stands for. Those past the limit are not in the array, and no call looks at
-- them: zeros stand for them
abbrev pub listed : ℕ → List Paint → List Paint
listed n a = take n a ++ replicate (n - limit) blank
