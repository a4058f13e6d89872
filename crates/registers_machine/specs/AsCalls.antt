-- Request 9, for a screen: what holds of every list of byte writes, reads and lock calls from a fresh opening, each event being bound by its
-- contract alone. Definitions only; `every` in `proofs/AsCalls.antt` proves it of every lawful screen, and the crate `promise` asks for it of
-- the three-times screen.
use Rattle.std.specs.Prelude.{◌≡◌, cond, List, [], ◌∷◌, ◌++◌, ℕ, ◌+◌, ◌*◌, ◌<◌, eqb}
use Rattle.clarity.specs.declared.Clarity.{Clarity}
use Rattle.clarity.specs.Clarity.{plainly}
use Rattle.header.specs.declared.Rectangle.{Rectangle}
use Rattle.header.specs.declared.Header.{Header}
use Rattle.machine.specs.Lists.{count}
use Rattle.machine.specs.Screen.{Screen}
use Rattle.machine.specs.Machine.{Answer, Locked, after}
use Rattle.machine.specs.Calls.{LockEnd, Opens, Locks}
use Rattle.machine.specs.Demand3.{Buffers, latest, Trace, started, left, Follows, SameOutput}
use Rattle.registers.specs.Address as address
use Rattle.registers.specs.Registers.{byte, stale_bit, line_of, start_of, StartsRegisters, ReadEnd, ReadsByte}
use Rattle.registers_machine.specs.Device.{Event, Write, Read, LockCall, Written, Got, Called, Seen, Device, ends, sees}
use Rattle.registers_machine.specs.Device.{unwritten, written, calls_of, last_command, last_count, flags_of, last_refusal}
use Rattle.registers_machine.specs.Calls.{WriteEnd, WritesByte}

-- ---- lists of events

-- the events es, the first of them lent a header, the buffers b and the registers r, each further one the header last answered without a
-- refusal and the buffers and registers as the event before left them; of each `seen` has its answer and the registers after it, and they
-- leave the last header, e and r'
pub data RanEvents (S : Screen) : Header → Buffers → List ℕ → List Event → List Seen → Header → Buffers → List ℕ → Type 0 where
  none : {header : Header} {b : Buffers} {r : List ℕ} → RanEvents S header b r [] [] header b r
  write : {header last : Header} {b e : Buffers} {r r' : List ℕ} {es : List Event} {seen : List Seen} {a v : ℕ} {d : WriteEnd}
      → WritesByte S header b.picture b.output b.marks r a v d
      → RanEvents S header (record { picture = d.picture; output = d.output; marks = d.marks }) d.registers es seen last e r'
      → RanEvents S header b r (Write a v ∷ es) (record { reply = Written d.refusal; registers = d.registers } ∷ seen) last e r'
  read : {header last : Header} {b e : Buffers} {r r' : List ℕ} {es : List Event} {seen : List Seen} {a : ℕ} {d : ReadEnd}
      → ReadsByte r a d
      → RanEvents S header b r es seen last e r'
      → RanEvents S header b r (Read a ∷ es) (record { reply = Got d.refusal d.value; registers = r } ∷ seen) last e r'
  lock : {header last : Header} {b e : Buffers} {r r' : List ℕ} {es : List Event} {seen : List Seen} {l : Rectangle} {d : LockEnd}
      → Locks S header l d
      → RanEvents S (latest header d) b r es seen last e r'
      → RanEvents S header b r (LockCall l ∷ es) (record { reply = Called (Locked d.refusal d.header); registers = r } ∷ seen) last e r'

-- an opening, given w, h and a setting, that is lent b, is not refused and answers the stale count; registers started by that count; and a
-- list of events from there
pub record EventTrace (S : Screen) (w h : ℕ) (clarity : Clarity) (b : Buffers) (stale : ℕ) (es : List Event) (seen : List Seen)
    (last : Header) (e : Buffers) (r : List ℕ) : Type 0 where
  pub header : Header
  pub output : List ℕ
  pub marks : List ℕ
  pub registers : List ℕ
  pub opens : Opens S w h clarity b.picture b.output b.marks
      (record { output = output; marks = marks; refusal = 0; header = header; stale = stale })
  pub starts : StartsRegisters stale registers
  pub ran : RanEvents S header (record { picture = b.picture; output = output; marks = marks }) registers es seen last e r

-- ---- what is claimed of them

module _ (S : Screen) (w h : ℕ) where
  -- the plain machine after the opening, with registers at their start
  abbrev pub device_started : Clarity → Buffers → Device
  device_started clarity b = record { session = started S w h clarity b; registers = start_of (count (started S w h clarity b).stale) }

  -- of a list of events: clarity, b and stale as for a list of calls, seen what was seen of each event, last, e and r the header, the buffers
  -- and the registers that the list left
  pub record EventsFollow (clarity : Clarity) (b : Buffers) (stale : ℕ) (es : List Event) (seen : List Seen) (last : Header) (e : Buffers)
      (r : List ℕ) : Type 0 where
    -- the commands and lock calls, made as a list of session calls from the same opening, leave the same header and buffers
    pub answers : List Answer
    pub calls : Trace S w h clarity b stale (calls_of unwritten es) answers last e
    -- so all of demand 3 holds of that list
    pub follows : Follows S w h clarity b stale (calls_of unwritten es) answers last e
    -- each answer and the registers after each event are those of the plain machine with the registers before it
    pub same_seen : seen ≡ sees S w h es (device_started clarity b)
    pub same_registers : r ≡ (ends S w h es (device_started clarity b)).registers
    -- whose session is the plain machine's own after those calls
    pub same_session : (ends S w h es (device_started clarity b)).session ≡ after S w h (calls_of unwritten es) (started S w h clarity b)
    -- byte 0 holds the last command taken, one that the session refused included
    pub command_right : byte r address.command ≡ last_command 0 es
    -- byte 1: bit 0 follows the last stale count answered without a refusal, which is the stale count, and bit 1 says whether the last command
    -- was refused; the other bits are 0
    pub status_right : byte r address.status ≡ stale_bit (last_count stale answers) + 2 * cond (eqb (last_refusal 0 answers) 0) 0 1
    pub count_right : last_count stale answers ≡ left S w h e
    -- byte 2: raised exactly by a refresh that takes the stale count from above 0 to 0, cleared by a written 1
    pub flags_right : byte r address.flags ≡ flags_of S w h 0 es (device_started clarity b)
    -- bytes 3 to 13 hold what was last written
    pub bytes_kept : (k : ℕ) → 2 < k → k < 14 → byte r k ≡ byte (written unwritten es) k
    -- byte 14 holds the last command's refusal as the session answered it, 0 where there was none
    pub refusal_right : byte r address.refusal ≡ last_refusal 0 answers
    -- byte 15 says whether flags and mask share a bit
    pub line_right : byte r address.line ≡ line_of (byte r address.flags) (byte r address.mask)

  -- of a list of events that is cut in two: what stands at the cut, seen-before being what was seen up to it. The events before it left that, and
  -- all of the above holds there of them; the events after it take it up
  pub record AtCut (clarity : Clarity) (b : Buffers) (stale : ℕ) (before after : List Event) (seen : List Seen) (last : Header) (e : Buffers)
      (r : List ℕ) : Type 0 where
    pub header : Header
    pub buffers : Buffers
    pub registers : List ℕ
    pub seen_before : List Seen
    pub seen_after : List Seen
    pub seen_is : seen ≡ seen_before ++ seen_after
    pub left_there : EventTrace S w h clarity b stale before seen_before header buffers registers
    pub follows_there : EventsFollow clarity b stale before seen_before header buffers registers
    pub taken_up : RanEvents S header buffers registers after seen_after last e r

pub record AsCalls (S : Screen) : Type 0 where
  pub each : {w h stale : ℕ} {c : Clarity} {b e : Buffers} {es : List Event} {seen : List Seen} {last : Header} {r : List ℕ}
      → EventTrace S w h c b stale es seen last e r → EventsFollow S w h c b stale es seen last e r
  -- and after every event, not at the list's end alone
  pub every_point : {w h stale : ℕ} {c : Clarity} {b e : Buffers} (before after : List Event) {seen : List Seen} {last : Header} {r : List ℕ}
      → EventTrace S w h c b stale (before ++ after) seen last e r → AtCut S w h c b stale before after seen last e r
  -- of two lists, perhaps of two sessions, whose settings count as equal: ending on the same picture with nothing stale, they hold the same
  -- output
  pub two : {w h stale stale' : ℕ} {c c' : Clarity} {b b' e e' : Buffers} {es es' : List Event} {seen seen' : List Seen} {last last' : Header}
      {r r' : List ℕ} → plainly c ≡ plainly c' → EventTrace S w h c b stale es seen last e r → EventTrace S w h c' b' stale' es' seen' last' e' r'
      → SameOutput S w h e e'
