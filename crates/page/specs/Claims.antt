-- What holds of a page that the reader takes: it is all of its file, from the first byte on. Definitions only; `proofs/Files.antt` proves it.
use Rattle.std.specs.Prelude.{◌≡◌, List, ℕ, ◌+◌, ◌*◌, ◌≤◌, length}
use Rattle.picture.specs.Refusal.{none}
use Rattle.page.specs.Page.{PageRead}
use Rattle.page.specs.Page.{width, height, pixels, words_from, read_refusal, read_of}

pub record WholeFile : Type 0 where
  -- where back leads is the file's first byte
  pub first_byte : (f : List ℕ) (room : ℕ) → read_refusal f room ≡ none → pixels f ≡ words_from 0 (width f * height f) f
  -- the file has the trailer's twelve bytes and the pixels' and no other, and the buffer has room for the pixels
  pub all_of_it : (f : List ℕ) (room : ℕ) (r : PageRead) → r ≡ read_of f room → r.refusal ≡ none
      → (length f ≡ 12 + 4 * (r.w * r.h)) × (r.w * r.h ≤ room)
