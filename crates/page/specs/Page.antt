-- Section 9's page file: what the page reader answers and writes, for every file and every buffer. Definitions only.
use Rattle.std.specs.Prelude.{Bool, true, false, cond, not, ◌&&◌, ◌||◌, List, [], ◌∷◌, ◌≡◌, ℕ, ◌+◌, ◌-◌, ◌*◌, eqb, ltb, length, take, drop}
use Rattle.picture.specs.Fill.{put, flat}
use Rattle.picture.specs.Refusal.{none, side, picture, trailer}

-- what reading a page answers: the refusal's number or 0, and the page's sides, 0 beside a refusal
pub record PageRead : Type 0 where
  pub refusal : ℕ
  pub w : ℕ
  pub h : ℕ

-- what a file's last twelve bytes say: refusal 8 or 0, and the page's sides and back, 0 beside a refusal
pub record Trailer : Type 0 where
  pub refusal : ℕ
  pub w : ℕ
  pub h : ℕ
  pub back : ℕ

-- the number that bytes hold, the lowest byte first
abbrev pub little_endian : List ℕ → ℕ
little_endian [] = 0
little_endian (b ∷ bs) = b + 256 * little_endian bs

-- n bytes of a file, from place i on
unfoldable pub part : ℕ → ℕ → List ℕ → List ℕ
part i n f = take n (drop i f)

-- the trailer's fields, by their distance from the file's end
unfoldable pub width : List ℕ → ℕ
width f = little_endian (part (length f - 12) 2 f)

unfoldable pub height : List ℕ → ℕ
height f = little_endian (part (length f - 10) 2 f)

unfoldable pub back : List ℕ → ℕ
back f = little_endian (part (length f - 8) 4 f)

unfoldable pub mark : List ℕ → List ℕ
mark f = part (length f - 4) 4 f

-- what the last four bytes have to be
abbrev pub page : List ℕ
page = 0x50 ∷ 0x41 ∷ 0x47 ∷ 0x45 ∷ []

abbrev pub same : List ℕ → List ℕ → Bool
same [] [] = true
same (a ∷ s) (b ∷ t) = eqb a b && same s t
same [] (b ∷ t) = false
same (a ∷ s) [] = false

-- n words of a file, one after the other from place i on
unfoldable pub words_from : ℕ → ℕ → List ℕ → List ℕ
words_from i n f = flat n (λ k. little_endian (part (i + 4 * k) 4 f) ∷ [])

-- the page's words in row order; back counts from the file's end to the first
unfoldable pub pixels : List ℕ → List ℕ
pixels f = words_from (length f - back f) (width f * height f) f

-- a bad trailer, whatever stands before its page: under 12 bytes, last four bytes wrong, or back not 12 + 4wh
unfoldable pub bad_trailer : List ℕ → Bool
bad_trailer f =
    ltb (length f) 12
    || not (same (mark f) page)
    || not (eqb (back f) (12 + 4 * (width f * height f)))

-- refusal 8: a bad trailer, or back not the file's length: a single page is all of its file
unfoldable pub broken : List ℕ → Bool
broken f = bad_trailer f || not (eqb (back f) (length f))

-- refusal 1: a side above 2,048
unfoldable pub wide : List ℕ → Bool
wide f = ltb 2048 (width f) || ltb 2048 (height f)

-- the reader's refusal, in the order 8, 1, 2; the picture buffer has `room` words
unfoldable pub read_refusal : List ℕ → ℕ → ℕ
read_refusal f room =
    cond (broken f) trailer
    (cond (wide f) side
    (cond (ltb room (width f * height f)) picture none))

-- a number answered beside a refusal
abbrev pub beside : ℕ → ℕ → ℕ
beside refusal n = cond (eqb refusal none) n 0

-- the reader's answer
unfoldable pub read_of : List ℕ → ℕ → PageRead
read_of f room = let n = read_refusal f room in record { refusal = n; w = beside n (width f); h = beside n (height f) }

-- the picture buffer after the call
unfoldable pub picture_of : List ℕ → List ℕ → List ℕ
picture_of f before = cond (eqb (read_refusal f (length before)) none) (put 0 (pixels f) before) before

-- The page reader's contract: its answer, and the buffer whole.
pub record Reads (f before after : List ℕ) (r : PageRead) : Type 0 where
  pub answer : r ≡ read_of f (length before)
  pub buffer : after ≡ picture_of f before

-- What the trailer says by itself, whether or not its page is all of the file; no public contract cites it.
unfoldable pub trailer_of : List ℕ → Trailer
trailer_of f =
    let n = cond (bad_trailer f) trailer none in
    record { refusal = n; w = beside n (width f); h = beside n (height f); back = beside n (back f) }
