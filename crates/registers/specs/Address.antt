-- The addresses of the sixteen registers, in their order, and the two commands. A number of several bytes has the address of its lowest byte.
-- Definitions only.
use Rattle.std.specs.Prelude.{ℕ}

-- how many registers there are
abbrev pub all : ℕ
all = 16

-- the last command taken; writing it executes it
abbrev pub command : ℕ
command = 0

-- bit 0: blocks are stale; bit 1: the last command was refused
abbrev pub status : ℕ
status = 1

-- bit 0: a refresh took the stale count from above 0 to 0; a written 1 clears its bit
abbrev pub flags : ℕ
flags = 2

-- which flags drive the line
abbrev pub mask : ℕ
mask = 3

-- of a paint: two bytes, two bytes and four
abbrev pub paint_column : ℕ
paint_column = 4

abbrev pub paint_row : ℕ
paint_row = 6

abbrev pub paint_word : ℕ
paint_word = 8

-- of a refresh: two bytes
abbrev pub refresh_count : ℕ
refresh_count = 12

-- the last command's refusal, or 0
abbrev pub refusal : ℕ
refusal = 14

-- the line: 1 where flags and mask share a bit, else 0
abbrev pub line : ℕ
line = 15

-- ---- the commands
abbrev pub paint : ℕ
paint = 1

abbrev pub refresh : ℕ
refresh = 2
