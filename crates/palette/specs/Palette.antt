-- A palette: its entry nearest to a word, and a picture whose words are replaced so, by the number N of request 8. Definitions only.
use Rattle.std.specs.Prelude.{cond, List, [], ◌∷◌, map, ℕ, ltb, take}
use Rattle.colour.specs.Nearness.{nearness_of}

-- of two entries the later one, where it is nearer to the word, and otherwise the earlier
unfoldable pub nearer : ℕ → ℕ → ℕ → ℕ
nearer word earlier later = cond (ltb (nearness_of later word) (nearness_of earlier word)) later earlier

-- the nearest of the entry `best` and those that come after it
unfoldable pub nearest_after : ℕ → ℕ → List ℕ → ℕ
nearest_after word best [] = best
nearest_after word best (e ∷ es) = nearest_after word (nearer word best e) es

-- the entry of the palette that is nearest to the word, top byte and all; 0 where there is none
unfoldable pub nearest_of : List ℕ → ℕ → ℕ
nearest_of [] word = 0
nearest_of (e ∷ es) word = nearest_after word e es

-- the picture's first n words, each replaced by the nearest entry
unfoldable pub replaced_of : List ℕ → ℕ → List ℕ → List ℕ
replaced_of palette n picture = map (nearest_of palette) (take n picture)
