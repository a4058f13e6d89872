-- A pixel's block by its tags, and the words of which it is. Definitions only.
use Rattle.std.specs.Prelude.{List, ℕ, Option, None, Some, cond, eqb, ltb, set}
use Rattle.picture.specs.Picture.{words}
use Rattle.tag.specs.declared.Tags.{Tags}
use Rattle.block.specs.Block.{corner, mid, tag_word, block_from}
use Rattle.tag_words.specs.declared.Pixel.{Pixel}

-- the word that a tag names, of those round the pixel
abbrev pub named : Pixel → ℕ → ℕ
named p tag = tag_word p.picture.w p.picture.h (words p.picture.w p.picture.words.now) p.x p.y tag

-- its block by the tags t
abbrev pub block : Pixel → Tags → List ℕ
block p t = block_from p.picture.w p.picture.h (words p.picture.w p.picture.words.now) p.x p.y t

-- the corner tag and the mid-edge tag of a tag number, if they can name another pixel
abbrev pub corner_of : ℕ → Option ℕ
corner_of t = cond (eqb t 0) None (Some (corner t))

abbrev pub mid_of : ℕ → Option ℕ
mid_of t = cond (ltb t 9) None (Some (mid t))

-- the word that a tag names, if there is one, stored at `at`
abbrev pub stored : Pixel → Option ℕ → ℕ → List ℕ → List ℕ
stored p None at l = l
stored p (Some tag) at l = set l at (named p tag)
