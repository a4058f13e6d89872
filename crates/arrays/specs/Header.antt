-- A session's header, as an array of eight numbers. Definitions only; include/panel.h has the same places.
use Rattle.std.specs.Prelude.{List, [], ◌∷◌, ℕ, get_or}
use Rattle.std.specs.Float.{binary32}
use Rattle.std.specs.Float.Ieee.{to_bits}
use Rattle.clarity.specs.declared.Clarity.{Clarity}
use Rattle.clarity.specs.declared.Clarity.TheVariants.{Standard, Threshold, Gated}
use Rattle.clarity.specs.Clarity.{clarity_of, kind_of}
use Rattle.header.specs.declared.Header.{Header}

-- the header that a call's numbers stand for
abbrev pub header_of : List ℕ → Header
header_of numbers = record {
  w = get_or numbers 0 0;
  h = get_or numbers 1 0;
  lock = record { left = get_or numbers 2 0; top = get_or numbers 3 0; width = get_or numbers 4 0; height = get_or numbers 5 0 };
  clarity = clarity_of (get_or numbers 6 0) (get_or numbers 7 0);
}

-- the pattern of a setting's threshold, 0 at the standard
abbrev pub bits_of : Clarity → ℕ
bits_of Standard = 0
bits_of (Threshold t) = to_bits binary32 t
bits_of (Gated t) = to_bits binary32 t

-- the numbers that a header is answered with
abbrev pub numbers_of : Header → List ℕ
numbers_of header =
    header.w ∷ header.h ∷ header.lock.left ∷ header.lock.top ∷ header.lock.width ∷ header.lock.height
    ∷ kind_of header.clarity ∷ bits_of header.clarity ∷ []
