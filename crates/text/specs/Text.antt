-- Section 9's text: the bytes that page3x prints of a file. Definitions only.
use Rattle.std.specs.Prelude.{cond, List, [], ◌∷◌, ◌++◌, ◌≡◌, ℕ, zero, suc, ◌+◌, ◌-◌, ◌*◌, ◌/◌, ◌%◌, eqb, ltb, length, take, drop}
use Rattle.page.specs.Page.{width, height, pixels, broken, wide}
use Rattle.picture.specs.Fill.{put, flat}
use Rattle.picture.specs.Picture.{words}
use Rattle.picture.specs.Refusal.{none, side, trailer, long}
use Rattle.clarity.specs.declared.Clarity.TheVariants.{Standard}
use Rattle.enlarged.specs.Whole.{scale_of}

-- a digit's character: 0 to 9, then a to f
abbrev pub digit : ℕ → ℕ
digit d = cond (ltb d 10) (0x30 + d) (0x61 + (d - 10))

-- the last k digits of n in a base, the highest first
abbrev pub digits : ℕ → ℕ → ℕ → List ℕ
digits base zero n = []
digits base (suc k) n = digits base k (n / base) ++ (digit (n % base) ∷ [])

-- a word: eight hexadecimal digits
unfoldable pub hex : ℕ → List ℕ
hex n = digits 16 8 n

-- a number below 10,000 in decimal; the output's sides are at most 6,144
abbrev pub places : ℕ → ℕ
places n = cond (ltb n 10) 1 (cond (ltb n 100) 2 (cond (ltb n 1000) 3 4))

unfoldable pub decimal : ℕ → List ℕ
decimal n = digits 10 (places n) n

-- words with single spaces between them
abbrev pub spaced : List ℕ → List ℕ
spaced [] = []
spaced (v ∷ []) = hex v
spaced (v ∷ u ∷ vs) = hex v ++ (0x20 ∷ spaced (u ∷ vs))

-- every line ends with 0a
unfoldable pub line : List ℕ → List ℕ
line s = s ++ (0x0a ∷ [])

-- row y of rows of w words
unfoldable pub row : ℕ → List ℕ → ℕ → List ℕ
row w ps y = take w (drop (y * w) ps)

-- a line for each of h rows
unfoldable pub rows : ℕ → ℕ → List ℕ → List ℕ
rows w h ps = flat h (λ y. line (spaced (row w ps y)))

-- a picture: its sides on one line, then its rows
unfoldable pub sides_text : ℕ → ℕ → List ℕ
sides_text w h = line (decimal w ++ (0x20 ∷ decimal h))

unfoldable pub picture_text : ℕ → ℕ → List ℕ → List ℕ
picture_text w h ps = sides_text w h ++ rows w h ps

-- the text of a picture that is enlarged three times, at the standard setting of clarity
abbrev pub enlarged_text : ℕ → ℕ → List ℕ → List ℕ
enlarged_text w h ps = picture_text (3 * w) (3 * h) (scale_of Standard w h (words w ps))

-- `refused`, a space and the number
abbrev pub refused : List ℕ
refused = 0x72 ∷ 0x65 ∷ 0x66 ∷ 0x75 ∷ 0x73 ∷ 0x65 ∷ 0x64 ∷ []

unfoldable pub refused_text : ℕ → List ℕ
refused_text n = line (refused ++ (0x20 ∷ decimal n))

-- the program's refusal, in the order 9, 8, 1
unfoldable pub program_refusal : List ℕ → ℕ
program_refusal f = cond (ltb 4108 (length f)) long (cond (broken f) trailer (cond (wide f) side none))

-- what page3x prints of a file
unfoldable pub text_of : List ℕ → List ℕ
text_of f =
    let n = program_refusal f in
    cond (eqb n none) (enlarged_text (width f) (height f) (pixels f)) (refused_text n)

-- The contract of the text of a file: it stands at the buffer's front, its length is answered, and the rest is as it was.
pub record Prints (f before after : List ℕ) (n : ℕ) : Type 0 where
  pub length_is : n ≡ length (text_of f)
  pub text_is : after ≡ put 0 (text_of f) before
