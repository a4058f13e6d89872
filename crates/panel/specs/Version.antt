-- The version of the C face, as three parts and as one number. Definitions only; include/panel.h has the same number.
use Rattle.std.specs.Prelude.{ℕ, ◌+◌, ◌*◌}

-- 0 so far; from 1 on raised where a caller's source has to change
abbrev pub major : ℕ
major = 0

-- raised where a call is added or answers otherwise, and while major is 0 where a caller's source has to change
abbrev pub minor : ℕ
minor = 8

-- raised where neither is so
abbrev pub patch : ℕ
patch = 0

abbrev pub version : ℕ
version = major * 10000 + minor * 100 + patch
