-- Singles, which are binary32's values, as the source writes them: its constants, its operators, each rounded once,
-- and `max`, `min` and `clamp`. Definitions only.
use Rattle.std.specs.Prelude.{false, cond, pos, negsuc, Float}
use Rattle.std.specs.Float.{fin, binary32}
use Rattle.std.specs.Float.Ieee.{add, sub, mul, div, lt}

-- 0.0, 0.5, 1.0, 2.0, 3.0, 4.0, 8.0, 255.0
abbrev pub f0 : Float
f0 = fin false 0 (pos 0)

abbrev pub f½ : Float
f½ = fin false 1 (negsuc 0)

abbrev pub f1 : Float
f1 = fin false 1 (pos 0)

abbrev pub f2 : Float
f2 = fin false 1 (pos 1)

abbrev pub f3 : Float
f3 = fin false 3 (pos 0)

abbrev pub f4 : Float
f4 = fin false 1 (pos 2)

abbrev pub f8 : Float
f8 = fin false 1 (pos 3)

abbrev pub f255 : Float
f255 = fin false 255 (pos 0)

infixl 6 ◌⊕◌ ◌⊖◌
infixl 7 ◌⊗◌ ◌⊘◌
abbrev pub ◌⊕◌ : Float → Float → Float
x ⊕ y = add binary32 x y

abbrev pub ◌⊖◌ : Float → Float → Float
x ⊖ y = sub binary32 x y

abbrev pub ◌⊗◌ : Float → Float → Float
x ⊗ y = mul binary32 x y

abbrev pub ◌⊘◌ : Float → Float → Float
x ⊘ y = div binary32 x y

-- x.max(y), x.min(y) and x.clamp(lo, hi), as Rust defines them where no operand is a NaN. Where neither of two is larger, `max` and `min`
-- take the second: that shows only in +0.0 and -0.0, of which Rust may take either.
unfoldable pub max_of : Float → Float → Float
max_of x y = cond (lt y x) x y

unfoldable pub min_of : Float → Float → Float
min_of x y = cond (lt x y) x y

unfoldable pub clamp_of : Float → Float → Float → Float
clamp_of x lo hi =
    cond (lt x lo) lo
    (cond (lt hi x) hi
    x)
