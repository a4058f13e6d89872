-- What a write of a byte leaves in what it is lent and what it answers, for every header, every length and every contents. Definitions only;
-- `registers/specs/Registers.antt` has a start and a read.
use Rattle.std.specs.Prelude.{◌≡◌, cond, List, ℕ, ◌*◌, eqb}
use Rattle.picture.specs.Refusal as refusal
use Rattle.header.specs.declared.Header.{Header}
use Rattle.machine.specs.Lists.{count}
use Rattle.machine.specs.Screen.{Screen}
use Rattle.machine.specs.Calls.{stale_of, paint_end, refresh_end}
use Rattle.registers.specs.Address as address
use Rattle.registers.specs.Registers.{two_bytes, four_bytes, is_paint, with_byte, after_paint, after_refresh, refusal_write}

pub record WriteEnd : Type 0 where
  pub picture : List ℕ
  pub output : List ℕ
  pub marks : List ℕ
  pub registers : List ℕ
  pub refusal : ℕ

-- v written at a, in the registers r: a command leaves what its call leaves, be it refused or not, and succeeds as a write; any other write
-- leaves the buffers as they are, whatever they and the header are
unfoldable pub write_end : Screen → Header → List ℕ → List ℕ → List ℕ → List ℕ → ℕ → ℕ → WriteEnd
write_end S header picture output marks r a v =
    let p = paint_end S header picture marks (two_bytes r address.paint_column) (two_bytes r address.paint_row) (four_bytes r address.paint_word) in
    let q = refresh_end S header picture output marks (two_bytes r address.refresh_count) in
    let before = count (stale_of (header.w * header.h) marks) in
    cond (eqb (refusal_write a v) 0)
    (cond (eqb a address.command)
    (cond (is_paint v)
    (record { picture = p.picture; output = output; marks = p.marks; registers = after_paint r p.refusal p.stale; refusal = 0 })
    (record { picture = picture; output = q.output; marks = q.marks; registers = after_refresh r before q.refusal q.left; refusal = 0 }))
    (record { picture = picture; output = output; marks = marks; registers = with_byte r a v; refusal = 0 }))
    (record { picture = picture; output = output; marks = marks; registers = r; refusal = refusal.register })

-- ---- its contract: from what is lent at entry, what is left and answered is e
pub record WritesByte (S : Screen) (header : Header) (picture output marks registers : List ℕ) (a v : ℕ) (e : WriteEnd) : Type 0 where
  pub is : e ≡ write_end S header picture output marks registers a v
