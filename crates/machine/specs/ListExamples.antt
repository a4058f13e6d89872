-- Paint lists on a picture of three pixels, the second block stale and the last pixel locked: what the call leaves and answers, what the
-- machine does, and what a loop over the items finds. A block of this screen is one word, and a paint names its own block alone. Assumes
-- nothing.
use Rattle.std.specs.Prelude.{◌≡◌, refl, true, false, ◌&&◌, List, [], ◌∷◌, ℕ, ◌+◌, ◌*◌, eqb, get_or}
use Rattle.picture.specs.Refusal as refusal
use Rattle.clarity.specs.declared.Clarity.TheVariants.{Standard}
use Rattle.header.specs.declared.Rectangle.{Rectangle}
use Rattle.header.specs.declared.Header.{Header}
use Rattle.header.specs.Header.{locked, past}
use Rattle.paints.specs.declared.Paint.{Paint}
use Rattle.machine.specs.Screen.{Screen}
use Rattle.machine.specs.Machine.{State, Answer, PaintList, PaintedList, step}
use Rattle.machine.specs.Calls.{PaintListEnd, paint_end, paint_list_end}
use Rattle.machine.specs.Items.{refusal_items}

abbrev small : Screen
small = record {
  scale = 1;
  side = 3;
  touches = λ column row bx by. eqb column bx && eqb row by;
  draw = λ clarity w h picture bx by. get_or picture (by * w + bx) 0 ∷ [];
}

abbrev last : Rectangle
last = record { left = 2; top = 0; width = 1; height = 1 }

abbrev header : Header
header = record { w = 3; h = 1; lock = last; clarity = Standard }

-- a word for the pixel of a column
abbrev at : ℕ → ℕ → Paint
at column word = record { column = column; row = 0; word = word }

-- no items; two pixels; one position twice, and set back; an equal word in the lock
abbrev none : List Paint
none = []

abbrev two : List Paint
two = at 0 5 ∷ at 1 6 ∷ []

abbrev twice : List Paint
twice = at 0 5 ∷ at 0 6 ∷ []

abbrev back : List Paint
back = at 0 5 ∷ at 0 7 ∷ []

abbrev equal : List Paint
equal = at 0 5 ∷ at 2 9 ∷ []

-- another word in the lock; a position outside before it, and behind it
abbrev other : List Paint
other = at 0 5 ∷ at 2 6 ∷ []

abbrev outside : List Paint
outside = at 0 5 ∷ at 3 6 ∷ at 2 6 ∷ []

abbrev inside : List Paint
inside = at 0 5 ∷ at 2 6 ∷ at 3 6 ∷ []

-- ---- the call, on a picture and marks with one element more
abbrev called : List Paint → PaintListEnd
called items = paint_list_end small header (7 ∷ 8 ∷ 9 ∷ 1 ∷ []) (0 ∷ 3 ∷ 0 ∷ 4 ∷ []) items

abbrev leaves : ℕ → ℕ → ℕ → ℕ → ℕ → PaintListEnd
leaves a b x y stale = record { picture = a ∷ b ∷ 9 ∷ 1 ∷ []; marks = x ∷ y ∷ 0 ∷ 4 ∷ []; refusal = 0; stale = stale }

abbrev refused : ℕ → PaintListEnd
refused number = record { picture = 7 ∷ 8 ∷ 9 ∷ 1 ∷ []; marks = 0 ∷ 3 ∷ 0 ∷ 4 ∷ []; refusal = number; stale = 0 }

-- ---- the machine
abbrev start : State
start = record { picture = 7 ∷ 8 ∷ 9 ∷ []; stale = false ∷ true ∷ false ∷ []; output = 7 ∷ 8 ∷ 9 ∷ []; lock = last; clarity = Standard }

abbrev done : List Paint → State × Answer
done items = step small 3 1 (PaintList items) start

-- the state with other words in the first two pixels and their blocks stale
abbrev with : ℕ → ℕ → State
with a b = record { picture = a ∷ b ∷ 9 ∷ []; stale = true ∷ true ∷ false ∷ []; output = 7 ∷ 8 ∷ 9 ∷ []; lock = last; clarity = Standard }

-- ---- what comes of the lists
pub record ListExamples : Type 0 where
  -- what the call leaves and answers
  pub call_lists : (called none ≡ leaves 7 8 0 3 1)
      × (called two ≡ leaves 5 6 1 1 2)
      × (called twice ≡ leaves 6 8 1 3 2)
      × (called back ≡ leaves 7 8 1 3 2)
      × (called equal ≡ leaves 5 8 1 3 2)
      × (called other ≡ refused refusal.locked)
      × (called outside ≡ refused refusal.outside)
      × (called inside ≡ refused refusal.locked)
  -- what the machine does
  pub machine_lists : (done none ≡ (start, PaintedList 0 1))
      × (done two ≡ (with 5 6, PaintedList 0 2))
      × (done twice ≡ (with 6 8, PaintedList 0 2))
      × (done back ≡ (with 7 8, PaintedList 0 2))
      × (done equal ≡ (with 5 8, PaintedList 0 2))
      × (done other ≡ (start, PaintedList refusal.locked 0))
      × (done outside ≡ (start, PaintedList refusal.outside 0))
      × (done inside ≡ (start, PaintedList refusal.locked 0))
  -- what a loop over the items finds
  pub found_lists : (refusal_items header (7 ∷ 8 ∷ 9 ∷ []) equal ≡ refusal.none)
      × (refusal_items header (7 ∷ 8 ∷ 9 ∷ []) outside ≡ refusal.outside)
      × (refusal_items header (7 ∷ 8 ∷ 9 ∷ []) inside ≡ refusal.locked)

pub list_examples : ListExamples
unfolding past locked paint_end paint_list_end
list_examples = record {
  call_lists = (refl, refl, refl, refl, refl, refl, refl, refl);
  machine_lists = (refl, refl, refl, refl, refl, refl, refl, refl);
  found_lists = (refl, refl, refl);
}
