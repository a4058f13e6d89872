-- Section 8's sizes and lengths, and the refusals of whole pictures, for every setting of clarity. Definitions only.
use Rattle.std.specs.Prelude.{cond, ◌||◌, List, ℕ, ◌*◌, ltb, Float, length}
use Rattle.picture.specs.Refusal as Refusal
use Rattle.clarity.specs.declared.Clarity.{Clarity}
use Rattle.clarity.specs.Clarity.{lawful_of}
use Rattle.sizes.specs.declared.Asked.{Asked}
use Rattle.sizes.specs.declared.Lengths.{Lengths}
use Rattle.sizes.specs.declared.Times.{Times}
use Rattle.sizes.specs.declared.Times.TheVariants.{Three, Nine}

-- the number of the refusal, the first condition that holds
abbrev pub refusal_of : Clarity → Asked → Lengths → ℕ
refusal_of q asked lent =
    cond (ltb asked.limit asked.w || ltb asked.limit asked.h) Refusal.side
    (cond (ltb lent.picture asked.picture) Refusal.picture
    (cond (ltb lent.output asked.output) Refusal.output
    (cond
    (ltb lent.middle asked.middle || ltb lent.replaced asked.replaced || ltb lent.singles asked.scratch
    || ltb lent.bytes asked.scratch) Refusal.scratch
    (cond (lawful_of q) Refusal.none Refusal.clarity))))

-- three-times of a picture of w by h and n words: the output has nine words for each, and no middle is lent. A word takes eight singles,
-- a metric of four and weights of four, and eight bytes, junctions of four and tags of four. The replaced picture takes x words: n with a
-- palette, and none without
abbrev pub asked3 : ℕ → ℕ → ℕ → ℕ → Asked
asked3 w h n x = record { limit = 2048; w = w; h = h; picture = n; replaced = x; output = 9 * n; middle = 0; scratch = 8 * n }

-- x is the length of the buffer for the replaced picture, 0 where none is lent
abbrev pub lent3 : ℕ → List ℕ → List ℕ → List Float → List ℕ → Lengths
lent3 x picture output singles bytes = record {
  picture = length picture;
  replaced = x;
  output = length output;
  middle = 0;
  singles = length singles;
  bytes = length bytes;
}

abbrev pub refusal3 : Clarity → ℕ → ℕ → List ℕ → List ℕ → List Float → List ℕ → ℕ
refusal3 q w h picture output singles bytes = refusal_of q (asked3 w h (w * h) 0) (lent3 0 picture output singles bytes)

-- nine-times: the middle is a whole three-times output, whose sides, 3 * 682 at most, are within three-times' limit, and whose own passes
-- take the singles and bytes
abbrev pub asked9 : ℕ → ℕ → ℕ → ℕ → Asked
asked9 w h n x = record { limit = 682; w = w; h = h; picture = n; replaced = x; output = 81 * n; middle = 9 * n; scratch = 72 * n }

abbrev pub lent9 : ℕ → List ℕ → List ℕ → List ℕ → List Float → List ℕ → Lengths
lent9 x picture output middle singles bytes = record {
  picture = length picture;
  replaced = x;
  output = length output;
  middle = length middle;
  singles = length singles;
  bytes = length bytes;
}

abbrev pub refusal9 : Clarity → ℕ → ℕ → List ℕ → List ℕ → List ℕ → List Float → List ℕ → ℕ
refusal9 q w h picture output middle singles bytes = refusal_of q (asked9 w h (w * h) 0) (lent9 0 picture output middle singles bytes)

-- the words of a picture within the limit, and 0 past it, where no length is looked at
abbrev pub words_within : ℕ → ℕ → ℕ → ℕ
words_within side w h = cond (ltb side w || ltb side h) 0 (w * h)

-- the two calls by how many times as large they make the picture: what each asks for, and its largest side
abbrev pub asked_of : Times → ℕ → ℕ → ℕ → ℕ → Asked
asked_of Three w h n x = asked3 w h n x
asked_of Nine w h n x = asked9 w h n x

abbrev pub limit_of : Times → ℕ
limit_of Three = 2048
limit_of Nine = 682
