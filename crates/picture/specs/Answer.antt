-- The number that a refusal has, and an answer: 0 where nothing is refused. Definitions only.
use Rattle.std.specs.Prelude.{ℕ, Ok, Err, Result}
use Rattle.picture.specs.declared.refusal.Refusal.{Refusal}
use Rattle.picture.specs.declared.refusal.Refusal.TheVariants.{Side, Picture, Output, Scratch, Outside, Operand, Stale, Trailer, Long, Lock, Locked, Items, Clarity, Palette, Register, Range, Order}
use Rattle.picture.specs.Refusal.{none, side, picture, output, scratch, outside, operand, stale, trailer, long, lock, locked, items, clarity, palette, register, range, order}

abbrev pub number_of : Refusal → ℕ
number_of Side = side
number_of Picture = picture
number_of Output = output
number_of Scratch = scratch
number_of Outside = outside
number_of Operand = operand
number_of Stale = stale
number_of Trailer = trailer
number_of Long = long
number_of Lock = lock
number_of Locked = locked
number_of Items = items
number_of Clarity = clarity
number_of Palette = palette
number_of Register = register
number_of Range = range
number_of Order = order

-- the number that an answer stands for
abbrev pub refusal_of : {A : Type 0} → Result A Refusal → ℕ
refusal_of (Ok _) = none
refusal_of (Err e) = number_of e
