-- The field that a list holds of a rectangle, for records of any kind, and the records of a field round a pixel. Definitions only.
use Rattle.std.specs.Prelude.{List, ℕ, ◌-◌, pos, negsuc}
use Rattle.picture.specs.Picture.{near}
use Rattle.metric.specs.declared.Around.{Around}
use Rattle.tag.specs.declared.Cross.{Cross}
use Rattle.grid.specs.declared.Grid.{Grid}
use Rattle.grid.specs.Grid.{start_of}

-- `at` tells the record that starts at an element of a list
abbrev pub field_of : {R E : Type 0} → (List E → ℕ → R) → Grid → List E → ℕ → ℕ → R
field_of at g l x y = at l (start_of g x y)

-- the records round (x, y) and its own, read at clamped positions
abbrev pub around_of : {R : Type 0} → ℕ → ℕ → (ℕ → ℕ → R) → ℕ → ℕ → Around R
around_of w h f x y =
    let at = near w h f x y in
    record {
      tl = at (negsuc 0) (negsuc 0);
      t = at (pos 0) (negsuc 0);
      tr = at (pos 1) (negsuc 0);
      l = at (negsuc 0) (pos 0);
      c = at (pos 0) (pos 0);
      r = at (pos 1) (pos 0);
      bl = at (negsuc 0) (pos 1);
      b = at (pos 0) (pos 1);
      br = at (pos 1) (pos 1);
    }

-- the records to the left and right of (x, y), above and below it, at the distance d, which is above 0
abbrev pub cross_of : {R : Type 0} → ℕ → ℕ → (ℕ → ℕ → R) → ℕ → ℕ → ℕ → Cross R
cross_of w h f x y d =
    let at = near w h f x y in
    record {
      left = at (negsuc (d - 1)) (pos 0);
      right = at (pos d) (pos 0);
      up = at (pos 0) (negsuc (d - 1));
      down = at (pos 0) (pos d);
    }
