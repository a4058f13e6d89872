-- A paint of a list, as an array of three numbers. Definitions only; include/panel.h has the same places.
use Rattle.std.specs.Prelude.{List, ℕ, get_or}
use Rattle.paints.specs.declared.Paint.{Paint}

abbrev pub paint_of : List ℕ → Paint
paint_of numbers = record { column = get_or numbers 0 0; row = get_or numbers 1 0; word = get_or numbers 2 0 }
