-- What is claimed of single writes, by their contract alone, for every header, every length, every contents and any sixteen bytes: the
-- sentences of request 9, one by one. For a screen; definitions only.
use Rattle.std.specs.Prelude.{◌≡◌, cond, List, ℕ, ◌+◌, ◌*◌, ◌%◌, ◌<◌, length}
use Rattle.picture.specs.Refusal as refusal
use Rattle.header.specs.declared.Header.{Header}
use Rattle.machine.specs.Lists.{count}
use Rattle.machine.specs.Screen.{Screen}
use Rattle.machine.specs.Calls.{stale_of, paint_end, refresh_end}
use Rattle.registers.specs.Address as address
use Rattle.registers.specs.Registers.{byte, two_bytes, four_bytes, is_paint, stale_bit, with_byte, refusal_write}
use Rattle.registers_machine.specs.Calls.{WriteEnd, WritesByte}

module _ (S : Screen) (header : Header) (picture output marks r : List ℕ) where
  -- picture, output and marks are as they were
  pub record Untouched (e : WriteEnd) : Type 0 where
    pub picture_same : e.picture ≡ picture
    pub output_same : e.output ≡ output
    pub marks_same : e.marks ≡ marks

  -- the number that the session answers to a command v, 1 or 2, which these registers stand for
  abbrev pub command_refusal : ℕ → ℕ
  command_refusal v =
      cond (is_paint v)
      (paint_end S header picture marks (two_bytes r address.paint_column) (two_bytes r address.paint_row) (four_bytes r address.paint_word)).refusal
      (refresh_end S header picture output marks (two_bytes r address.refresh_count)).refusal

  -- a command v that the session refuses: it succeeds as a write, and alters bytes 0, 1 and 14 alone, of byte 1 not bit 0
  pub record CommandRefused (v : ℕ) (e : WriteEnd) : Type 0 where
    pub untouched : Untouched e
    pub succeeds : e.refusal ≡ refusal.none
    pub command : byte e.registers address.command ≡ v
    pub status : byte e.registers address.status ≡ byte r address.status % 2 + 2
    pub number : byte e.registers address.refusal ≡ command_refusal v
    pub others : (k : ℕ) → 1 < k → (k ≡ address.refusal → ⊥) → byte e.registers k ≡ byte r k

  -- one that it does not refuse: byte 14 is 0, bit 1 of the status is cleared, and bit 0 says whether blocks are stale now
  pub record CommandTaken (v : ℕ) (e : WriteEnd) : Type 0 where
    pub succeeds : e.refusal ≡ refusal.none
    pub command : byte e.registers address.command ≡ v
    pub status : byte e.registers address.status ≡ stale_bit (count (stale_of (header.w * header.h) e.marks))
    pub number : byte e.registers address.refusal ≡ refusal.none
    pub kept : (k : ℕ) → 2 < k → k < 14 → byte e.registers k ≡ byte r k

pub record WriteLaws (S : Screen) : Type 0 where
  -- a write is refused by 15 or not at all; refused, it alters nothing
  pub refused : {header : Header} {p o m r : List ℕ} {a v : ℕ} {e : WriteEnd} → WritesByte S header p o m r a v e → (e.refusal ≡ refusal.none → ⊥)
      → (e.refusal ≡ refusal.register) × (e.registers ≡ r) × Untouched S header p o m r e
  -- to which writes that happens, whatever header, buffers and registers are
  pub answered : {header : Header} {p o m r : List ℕ} {a v : ℕ} {e : WriteEnd} → WritesByte S header p o m r a v e → e.refusal ≡ refusal_write a v
  -- a byte that is no command is stored whatever the header and the buffers are: only commands make the session's checks
  pub stored : {header : Header} {p o m r : List ℕ} {a v : ℕ} {e : WriteEnd} → WritesByte S header p o m r a v e → 1 < a → a < 14
      → (e.refusal ≡ refusal.none) × (e.registers ≡ with_byte r a v) × Untouched S header p o m r e
  -- a command, by what the session answers to it
  pub command_refused : {header : Header} {p o m r : List ℕ} {v : ℕ} {e : WriteEnd} → WritesByte S header p o m r address.command v e
      → length r ≡ address.all → refusal_write address.command v ≡ refusal.none → (command_refusal S header p o m r v ≡ refusal.none → ⊥)
      → CommandRefused S header p o m r v e
  pub command_taken : {header : Header} {p o m r : List ℕ} {v : ℕ} {e : WriteEnd} → WritesByte S header p o m r address.command v e
      → length r ≡ address.all → refusal_write address.command v ≡ refusal.none → command_refusal S header p o m r v ≡ refusal.none
      → CommandTaken S header p o m r v e
