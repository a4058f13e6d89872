-- Section 6's block: the 3 by 3 output words of one source pixel at a setting of clarity, laid out as `assemble_3x` lays them.
-- Definitions only.
use Rattle.std.specs.Prelude.{List, [], ◌∷◌, ℕ, ◌/◌, ◌%◌}
use Rattle.picture.specs.Picture.{near}
use Rattle.clarity.specs.declared.Clarity.{Clarity}
use Rattle.metric.specs.Metric.{metrics}
use Rattle.weight.specs.Weight.{weights}
use Rattle.junction.specs.declared.Junctions.{Junctions}
use Rattle.junction.specs.Junction.{junctions}
use Rattle.tag.specs.declared.Tags.{Tags}
use Rattle.tag.specs.Tag.{tags, offset_of}

-- the passes one after the other, on the field f of a picture's words
unfoldable pub picture_junctions : Clarity → ℕ → ℕ → (ℕ → ℕ → ℕ) → ℕ → ℕ → Junctions
picture_junctions q w h f = junctions w h (metrics w h f) (weights q w h (metrics w h f))

unfoldable pub picture_tags : Clarity → ℕ → ℕ → (ℕ → ℕ → ℕ) → ℕ → ℕ → Tags
picture_tags q w h f = tags w h (picture_junctions q w h f)

-- the corner tag and the mid-edge tag of a tag number
abbrev pub corner : ℕ → ℕ
corner t = t % 9

abbrev pub mid : ℕ → ℕ
mid t = t / 9 % 9

-- the word at the offset that a tag names
unfoldable pub tag_word : ℕ → ℕ → (ℕ → ℕ → ℕ) → ℕ → ℕ → ℕ → ℕ
tag_word w h f x y tag = near w h f x y (offset_of tag).dx (offset_of tag).dy

-- the block of (x, y) from its tags, row by row: corners at the ends, mids between them, the pixel itself in the middle
unfoldable pub block_from : ℕ → ℕ → (ℕ → ℕ → ℕ) → ℕ → ℕ → Tags → List ℕ
block_from w h f x y t =
    let word = tag_word w h f x y in
    word (corner t.t0) ∷ word (mid t.t0) ∷ word (corner t.t1)
    ∷ word (mid t.t3) ∷ word 0 ∷ word (mid t.t1)
    ∷ word (corner t.t3) ∷ word (mid t.t2) ∷ word (corner t.t2)
    ∷ []

unfoldable pub block_of : Clarity → ℕ → ℕ → (ℕ → ℕ → ℕ) → ℕ → ℕ → List ℕ
block_of q w h f x y = block_from w h f x y (picture_tags q w h f x y)
