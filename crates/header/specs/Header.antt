-- Section 7's header of a session, with the rectangle that is locked and the setting of clarity. Its numbers are taken as whole numbers:
-- left + width does not wrap. Definitions only.
use Rattle.std.specs.Prelude.{Bool, ◌&&◌, ◌||◌, ℕ, ◌+◌, ltb, leb}
use Rattle.clarity.specs.declared.Clarity.{Clarity}
use Rattle.clarity.specs.declared.Clarity.TheVariants.{Standard}
use Rattle.header.specs.declared.Rectangle.{Rectangle}
use Rattle.header.specs.declared.Header.{Header}

-- (column, row) lies in the lock; one of width or height 0 has no position
unfoldable pub locked : Rectangle → ℕ → ℕ → Bool
locked l column row = (leb l.left column && ltb column (l.left + l.width)) && (leb l.top row && ltb row (l.top + l.height))

-- a rectangle of width and height above 0 reaches past a picture of w by h
unfoldable pub past : ℕ → ℕ → Rectangle → Bool
past w h r = (ltb 0 r.width && ltb 0 r.height) && (ltb w (r.left + r.width) || ltb h (r.top + r.height))

-- no lock: what an opening sets
abbrev pub no_lock : Rectangle
no_lock = record { left = 0; top = 0; width = 0; height = 0 }

-- the header that an opening answers
abbrev pub fresh : ℕ → ℕ → Clarity → Header
fresh w h clarity = record { w = w; h = h; lock = no_lock; clarity = clarity }

-- a header with another lock
abbrev pub with_lock : Header → Rectangle → Header
with_lock header lock = record { w = header.w; h = header.h; lock = lock; clarity = header.clarity }

-- the header that stands beside a refusal: every number of it is 0, and its setting the standard
abbrev pub no_header : Header
no_header = fresh 0 0 Standard
