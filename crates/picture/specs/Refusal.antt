-- The refusal numbers, by name. Definitions only; `src/refusal.rt` has the enum that the code answers, whose numbers `Answer.antt` ties
-- to these, and `numbers` there is proved to be `all`.
use Rattle.std.specs.Prelude.{List, [], ◌∷◌, ℕ}

-- not refused
abbrev pub none : ℕ
none = 0

-- a side past its limit
abbrev pub side : ℕ
side = 1

-- the picture buffer is short
abbrev pub picture : ℕ
picture = 2

-- the output buffer is short
abbrev pub output : ℕ
output = 3

-- singles, bytes, middle, marks or the replaced picture's buffer are short
abbrev pub scratch : ℕ
scratch = 4

-- the position lies outside the picture
abbrev pub outside : ℕ
outside = 5

-- the root's operand has its sign bit set, is infinite or is not a number
abbrev pub operand : ℕ
operand = 6

-- the block is stale
abbrev pub stale : ℕ
stale = 7

-- a file under 12 bytes, its last four bytes wrong, or back wrong: not 12 + 4wh, or not the file's length
abbrev pub trailer : ℕ
trailer = 8

-- a file longer than the program takes
abbrev pub long : ℕ
long = 9

-- a lock of width and height above 0 that reaches past the picture
abbrev pub lock : ℕ
lock = 10

-- another word than the one there, painted inside the lock
abbrev pub locked : ℕ
locked = 11

-- a list of more than 64 paints
abbrev pub items : ℕ
items = 12

-- a threshold of clarity that is not above 0, is above 1 or is not a number
abbrev pub clarity : ℕ
clarity = 13

-- a palette that is empty or has more than 256 entries
abbrev pub palette : ℕ
palette = 14

-- a register that is not there or cannot be written, or a command that is not one; no call answers it yet
abbrev pub register : ℕ
register = 15

-- a channel's low above its high; no call answers it yet
abbrev pub range : ℕ
range = 16

-- pages out of order or repeated; no call answers it yet
abbrev pub order : ℕ
order = 17

abbrev pub all : List ℕ
all =
    none ∷ side ∷ picture ∷ output ∷ scratch ∷ outside ∷ operand ∷ stale ∷ trailer ∷ long ∷ lock ∷ locked ∷ items ∷ clarity ∷ palette ∷ register
    ∷ range ∷ order ∷ []
