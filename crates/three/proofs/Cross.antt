-- The two arms of the cross marked one after the other are the marks of the cross. Assumes nothing.
use mathlib.Core.Path.{◌≡◌, refl}
use mathlib.Core.Bool.{Bool, true, false, ◌&&◌, ◌||◌}
use mathlib.Core.List.{List}
use Prim.Native.Nat.{ℕ, ◌+◌, ◌-◌, ◌*◌, ◌/◌, ◌%◌}
use lib.Dec.{ltb}
use Rattle.machine.specs.Lists.{stamp}
use Rattle.machine.specs.Machine.{names}
use Rattle.marks.specs.Marks.{between, boxed}
use Rattle.marks.proofs.Box.{stamp_two}
use Rattle.three.specs.Three.{screen3}

in_either : (a p q : Bool) → (a && (p || q)) ≡ ((a && q) || (a && p))
in_either true true true = refl
in_either true true false = refl
in_either true false true = refl
in_either true false false = refl
in_either false p q = refl

pub cross_marked : (w h column row : ℕ) (m : List ℕ)
    → stamp (boxed w h column row 3 5 6) 1 (stamp (boxed w h column row 6 2 3) 1 m) ≡ stamp (names screen3 w h column row) 1 m
cross_marked w h column row m =
    stamp_two (names screen3 w h column row) (boxed w h column row 3 5 6) (boxed w h column row 6 2 3) 1 m
    (λ b l. in_either (ltb b (w * h)) (between (column - 6) (column + 6) (b % w) && between (row - 2) (row + 3) (b / w))
    (between (column - 3) (column + 3) (b % w) && between (row - 5) (row + 6) (b / w)))
