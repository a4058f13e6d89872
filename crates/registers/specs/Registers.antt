-- Request 9's sixteen registers: what each byte is, what they start as, what a write stores in them, what a command's answer leaves in them,
-- and what is refused. Registers are a list of sixteen bytes, and each definition says of any sixteen bytes what becomes of them. Definitions
-- only.
use Rattle.std.specs.Prelude.{◌≡◌, Bool, cond, ◌&&◌, ◌||◌, List, [], ◌∷◌, ℕ, ◌+◌, ◌-◌, ◌*◌, ◌%◌, ltb, eqb, get_or, set}
use Rattle.std.specs.Int.Bits.{bit_and, bit_or}
use Rattle.picture.specs.Refusal as refusal
use Rattle.registers.specs.Address as address

-- the byte at an address
abbrev pub byte : List ℕ → ℕ → ℕ
byte r a = get_or r a 0

-- ---- single bytes, in the order of their addresses

-- 0, the command: what is written there
abbrev pub is_paint : ℕ → Bool
is_paint v = eqb v address.paint

abbrev pub is_refresh : ℕ → Bool
is_refresh v = eqb v address.refresh

-- 1, the status: its bit 0, by a stale count
abbrev pub stale_bit : ℕ → ℕ
stale_bit n = cond (eqb n 0) 0 1

-- the status after a command, s before it, by its refusal and by the stale count that was answered beside it: bit 1 says whether it was
-- refused, and where it was, bit 0 stays
abbrev pub status_of : ℕ → ℕ → ℕ → ℕ
status_of s number stale = cond (eqb number 0) (stale_bit stale) (s % 2 + 2)

-- 2, the flags: after v is written to them each 1 of v has cleared its bit, and nothing is stored
abbrev pub cleared : ℕ → ℕ → ℕ
cleared f v = bit_and f (255 - v)

-- a refresh that is not refused takes the stale count from above 0, before it, to 0
abbrev pub empties : ℕ → ℕ → ℕ → Bool
empties number before left = eqb number 0 && (ltb 0 before && eqb left 0)

-- bit 0 raised
abbrev pub raised : ℕ → ℕ
raised f = bit_or f 1

-- 4 to 13, the numbers: of two bytes and of four at an address, the lowest first
abbrev pub two_bytes : List ℕ → ℕ → ℕ
two_bytes r a = byte r a + 256 * byte r (a + 1)

abbrev pub four_bytes : List ℕ → ℕ → ℕ
four_bytes r a = byte r a + 256 * (byte r (a + 1) + 256 * (byte r (a + 2) + 256 * byte r (a + 3)))

-- 15, the line, by flags and mask
abbrev pub line_of : ℕ → ℕ → ℕ
line_of f m = cond (eqb (bit_and f m) 0) 0 1

-- ---- the registers at the start, by the stale count that the opening answered
abbrev pub start_of : ℕ → List ℕ
start_of stale = 0 ∷ stale_bit stale ∷ 0 ∷ 0 ∷ 0 ∷ 0 ∷ 0 ∷ 0 ∷ 0 ∷ 0 ∷ 0 ∷ 0 ∷ 0 ∷ 0 ∷ 0 ∷ 0 ∷ []

-- ---- a write that is no command

-- other flags, or another mask, and the line by them
abbrev pub with_flags : List ℕ → ℕ → List ℕ
with_flags r f = set (set r address.flags f) address.line (line_of f (byte r address.mask))

abbrev pub with_mask : List ℕ → ℕ → List ℕ
with_mask r m = set (set r address.mask m) address.line (line_of (byte r address.flags) m)

-- v written at a, which is 2 to 13
unfoldable pub with_byte : List ℕ → ℕ → ℕ → List ℕ
with_byte r a v =
    cond (eqb a address.flags) (with_flags r (cleared (byte r address.flags) v))
    (cond (eqb a address.mask) (with_mask r v)
    (set r a v))

-- ---- a write that is a command

-- command, status and refusal after a command v
abbrev pub with_answer : List ℕ → ℕ → ℕ → ℕ → List ℕ
with_answer r v number stale =
    set (set (set r address.command v) address.status (status_of (byte r address.status) number stale)) address.refusal number

-- bit 0 of the flags raised, where t
abbrev pub with_raised : Bool → List ℕ → List ℕ
with_raised t r = cond t (with_flags r (raised (byte r address.flags))) r

-- the registers after a paint, by its answer
unfoldable pub after_paint : List ℕ → ℕ → ℕ → List ℕ
after_paint r number stale = with_answer r address.paint number stale

-- the registers after a refresh, by the stale count before it and by its answer
unfoldable pub after_refresh : List ℕ → ℕ → ℕ → ℕ → List ℕ
after_refresh r before number left = with_answer (with_raised (empties number before left) r) address.refresh number left

-- ---- what is refused: 15, before anything that the session refuses

-- a write: to status, refusal or line, past the last register, or of a command that there is not
abbrev pub refusal_write : ℕ → ℕ → ℕ
refusal_write a v =
    cond (eqb a address.command) (cond (is_paint v || is_refresh v) refusal.none refusal.register)
    (cond ((eqb a address.status || eqb a address.refusal) || (eqb a address.line || ltb address.line a)) refusal.register refusal.none)

-- a read: past the last register
abbrev pub refusal_read : ℕ → ℕ
refusal_read a = cond (ltb address.line a) refusal.register refusal.none

-- what a read answers beside it, 0 where it is refused
abbrev pub value_at : List ℕ → ℕ → ℕ
value_at r a = cond (ltb address.line a) 0 (byte r a)

-- ---- the contracts of a start and of a read

pub record StartsRegisters (stale : ℕ) (registers : List ℕ) : Type 0 where
  pub is : registers ≡ start_of stale

pub record ReadEnd : Type 0 where
  pub refusal : ℕ
  pub value : ℕ

pub record ReadsByte (registers : List ℕ) (a : ℕ) (e : ReadEnd) : Type 0 where
  pub is : e ≡ record { refusal = refusal_read a; value = value_at registers a }
