-- Request 9's plain machine with the sixteen registers before it: what each event leaves and answers, what a list of events leaves, which
-- calls it stands for, and what single registers are to hold after it. It takes nothing from the program. Definitions only.
use Rattle.std.specs.Prelude.{cond, ◌&&◌, List, [], ◌∷◌, ◌++◌, ℕ, eqb, ltb, set, replicate}
use Rattle.picture.specs.Refusal as refusal
use Rattle.header.specs.declared.Rectangle.{Rectangle}
use Rattle.machine.specs.Lists.{count}
use Rattle.machine.specs.Screen.{Screen}
use Rattle.machine.specs.Machine.{State, Call, Paint, Refresh, Lock, Answer, Painted, PaintedList, Refreshed, Shown, Locked, step}
use Rattle.registers.specs.Address as address
use Rattle.registers.specs.Registers.{two_bytes, four_bytes, is_paint, is_refresh, cleared, raised, with_byte, after_paint, after_refresh}
use Rattle.registers.specs.Registers.{refusal_write, refusal_read, value_at}

-- a byte written, a byte read, or a lock call
pub data Event : Type 0 where
  Write : (address value : ℕ) → Event
  Read : (address : ℕ) → Event
  LockCall : (lock : Rectangle) → Event

-- an event's answer: of a write its refusal, 0 for none; of a read its refusal and the byte; of a lock call the session's answer
pub data Reply : Type 0 where
  Written : (refusal : ℕ) → Reply
  Got : (refusal value : ℕ) → Reply
  Called : (answer : Answer) → Reply

-- an event's answer, and the registers after it
pub record Seen : Type 0 where
  pub reply : Reply
  pub registers : List ℕ

-- the machine's state and the registers
pub record Device : Type 0 where
  pub session : State
  pub registers : List ℕ

-- the call that a command v, 1 or 2, stands for, by the registers that it finds
abbrev pub call_of : List ℕ → ℕ → Call
call_of r v =
    cond (is_paint v) (Paint (two_bytes r address.paint_column) (two_bytes r address.paint_row) (four_bytes r address.paint_word))
    (Refresh (two_bytes r address.refresh_count))

-- the registers after a call, by the stale count before it and by its answer: no other call than a paint and a refresh alters them
abbrev pub after_answer : List ℕ → ℕ → Answer → List ℕ
after_answer r before (Painted number changed stale) = after_paint r number stale
after_answer r before (PaintedList number stale) = r
after_answer r before (Refreshed number drawn left) = after_refresh r before number left
after_answer r before (Shown number words) = r
after_answer r before (Locked number header) = r

module _ (S : Screen) (w h : ℕ) where
  -- v written at a: a command is a call on the machine, which succeeds as a write whatever the machine answers; another byte is stored
  abbrev pub write_byte : ℕ → ℕ → Device → Device × Reply
  write_byte a v d =
      let s = d.session in
      let r = d.registers in
      let t = step S w h (call_of r v) s in
      cond (eqb (refusal_write a v) 0)
      (cond (eqb a address.command)
      (record { session = t.0; registers = after_answer r (count s.stale) t.1 }, Written 0)
      (record { session = s; registers = with_byte r a v }, Written 0))
      (d, Written refusal.register)

  -- a lock call: no register alters
  abbrev pub lock_call : Rectangle → Device → Device × Reply
  lock_call l d = let t = step S w h (Lock l) d.session in (record { session = t.0; registers = d.registers }, Called t.1)

  abbrev pub event : Event → Device → Device × Reply
  event (Write a v) d = write_byte a v d
  event (Read a) d = (d, Got (refusal_read a) (value_at d.registers a))
  event (LockCall l) d = lock_call l d

  -- ---- a list of events: what it leaves, and what is seen of each event in its place
  abbrev pub ends : List Event → Device → Device
  ends [] d = d
  ends (e ∷ es) d = ends es (event e d).0

  abbrev pub sees : List Event → Device → List Seen
  sees [] d = []
  sees (e ∷ es) d = record { reply = (event e d).1; registers = (event e d).0.registers } ∷ sees es (event e d).0

-- ---- the calls that a list of events stands for, by what is written alone

-- sixteen bytes of which nothing is written yet
abbrev pub unwritten : List ℕ
unwritten = replicate address.all 0

-- at each address the byte last written there, l before the list, be the write refused or not
abbrev pub written : List ℕ → List Event → List ℕ
written l [] = l
written l (Write a v ∷ es) = written (set l a v) es
written l (Read a ∷ es) = written l es
written l (LockCall r ∷ es) = written l es

-- of one write: a command is one call, whatever the session answers
abbrev pub calls_at : List ℕ → ℕ → ℕ → List Call
calls_at l a v = cond (eqb (refusal_write a v) 0) (cond (eqb a address.command) (call_of l v ∷ []) []) []

abbrev pub calls_of : List ℕ → List Event → List Call
calls_of l [] = []
calls_of l (Write a v ∷ es) = calls_at l a v ++ calls_of (set l a v) es
calls_of l (Read a ∷ es) = calls_of l es
calls_of l (LockCall r ∷ es) = Lock r ∷ calls_of l es

-- ---- what single registers are to hold after a list

-- byte 0: the last command taken, c before the list
abbrev pub last_command : ℕ → List Event → ℕ
last_command c [] = c
last_command c (Write a v ∷ es) = last_command (cond (eqb (refusal_write a v) 0) (cond (eqb a address.command) v c) c) es
last_command c (Read a ∷ es) = last_command c es
last_command c (LockCall r ∷ es) = last_command c es

-- byte 1, bit 0: the last stale count, or number left, answered without a refusal, n before the answers
abbrev pub last_count : ℕ → List Answer → ℕ
last_count n [] = n
last_count n (Painted number changed stale ∷ rs) = last_count (cond (eqb number 0) stale n) rs
last_count n (PaintedList number stale ∷ rs) = last_count (cond (eqb number 0) stale n) rs
last_count n (Refreshed number drawn left ∷ rs) = last_count (cond (eqb number 0) left n) rs
last_count n (Shown number words ∷ rs) = last_count n rs
last_count n (Locked number header ∷ rs) = last_count n rs

-- byte 2, the flags after an event and after a list, f before it: a write to them clears each bit at which it has a 1, a refresh that takes the
-- stale count from above 0 to 0 raises bit 0, and nothing else alters them
module _ (S : Screen) (w h : ℕ) where
  abbrev pub flags_at : ℕ → Event → Device → ℕ
  flags_at f (Write a v) d =
      let before = count d.session.stale in
      let after = count (write_byte S w h a v d).0.session.stale in
      cond (eqb a address.flags) (cleared f v)
      (cond ((eqb a address.command && is_refresh v) && (ltb 0 before && eqb after 0)) (raised f) f)
  flags_at f (Read a) d = f
  flags_at f (LockCall l) d = f

  abbrev pub flags_of : ℕ → List Event → Device → ℕ
  flags_of f [] d = f
  flags_of f (e ∷ es) d = flags_of (flags_at f e d) es (event S w h e d).0

-- byte 14: the refusal of the last paint or refresh among some answers, n before them
abbrev pub last_refusal : ℕ → List Answer → ℕ
last_refusal n [] = n
last_refusal n (Painted number changed stale ∷ rs) = last_refusal number rs
last_refusal n (PaintedList number stale ∷ rs) = last_refusal n rs
last_refusal n (Refreshed number drawn left ∷ rs) = last_refusal number rs
last_refusal n (Shown number words ∷ rs) = last_refusal n rs
last_refusal n (Locked number header ∷ rs) = last_refusal n rs
