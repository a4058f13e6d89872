-- Rectangles of pixels: a tile, and the one that reaches further round it. Definitions only.
use Rattle.std.specs.Prelude.{ℕ, ◌+◌, ◌-◌, min}
use Rattle.grid.specs.declared.Grid.{Grid}

-- those pixels as a rectangle, and the one that reaches a pixels round them, as far as the picture goes
abbrev pub tile_of : ℕ → ℕ → ℕ → ℕ → Grid
tile_of x y k r = record { x0 = x; y0 = y; cols = k; rows = r }

abbrev pub ring_of : ℕ → ℕ → ℕ → ℕ → ℕ → ℕ → ℕ → Grid
ring_of w h x y k r a = record { x0 = x - a; y0 = y - a; cols = min (x + k + a) w - (x - a); rows = min (y + r + a) h - (y - a) }
