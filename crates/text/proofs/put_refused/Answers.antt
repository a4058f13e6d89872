-- `text::put_refused` meets its contract. Assumes nothing.
use native.Mathlib.Omega.{arith}
use Rattle.std.proofs.Common.{rules}
use Rattle.text.specs.Text.{refused_text}
use Rattle.text.specs.Writes.{Writes}
use Rattle.text.proofs.Texts.{length_refused, writes_refused}
use Rattle.text.proofs.put_refused.Goals as goal

pub put_bytes-requires : goal.put_bytes-requires
put_bytes-requires c = omega (arith, length_refused c.args.number)

pub put_decimal-requires : goal.put_decimal-requires
put_decimal-requires c = omega (arith, length_refused c.args.number)

pub put_byte-requires : goal.put_byte-requires
put_byte-requires c = omega (arith, length_refused c.args.number)

pub returns : goal.returns
returns c =
    let a = c.args in
    let d = c.put_decimal in
    let s = c.put_bytes in
    let e = c.put_byte in
    let w : Writes 0 (refused_text a.number) a.text.now e.new.self.bytes.now e.new.self.at =
    writes_refused a.number a.text.now s.new.self.bytes.now d.new.self.bytes.now e.new.self.bytes.now s.new.self.at d.new.self.at
    e.new.self.at c.requires s.ensures.written d.ensures.written e.ensures.written in
    record { next_is = w.next_is; text_is = search (rules, w.text_is) }
