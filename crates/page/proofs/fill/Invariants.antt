-- What the loop of `page::fill` keeps: the first i words of the file stand in the picture. Assumes nothing.
use mathlib.Core.List.{List, [], ◌∷◌}
use Prim.Native.Nat.{ℕ, ◌+◌, ◌*◌}
use Rattle.picture.specs.Fill.{Filled}
use Rattle.page.specs.Page.{little_endian, part}
use Rattle.page.proofs.fill.Given as goal

-- word i of the file
abbrev pub words : List ℕ → ℕ → List ℕ
words file i = little_endian (part (0 + 4 * i) 4 file) ∷ []

abbrev pub invariant-loop-i : goal.invariant-loop-i
invariant-loop-i l = Filled 0 1 l.i (words l.file) l.initial.picture l.picture
