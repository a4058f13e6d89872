-- `text::Text::put_sides` meets its contract. Assumes nothing.
use native.Mathlib.Omega.{arith}
use Rattle.text.proofs.Texts.{length_sides, writes_sides}
use Rattle.text.proofs.Text.put_sides.Goals as goal

pub put_decimal-requires : goal.put_decimal-requires
put_decimal-requires c = omega (arith, length_sides c.args.w c.args.h)

pub put_byte-requires : goal.put_byte-requires
put_byte-requires c = omega (arith, length_sides c.args.w c.args.h)

pub put_decimal-requires-2 : goal.put_decimal-requires-2
put_decimal-requires-2 c = omega (arith, length_sides c.args.w c.args.h)

pub put_byte-requires-2 : goal.put_byte-requires-2
put_byte-requires-2 c = omega (arith, length_sides c.args.w c.args.h)

pub returns-clause-written : goal.returns-clause-written
returns-clause-written c =
    let s = c.args.self.now in
    let a = c.put_decimal in
    let b = c.put_byte in
    let d = c.put_decimal-2 in
    let e = c.put_byte-2 in
    writes_sides s.at c.args.w c.args.h s.bytes.now a.new.self.bytes.now b.new.self.bytes.now d.new.self.bytes.now e.new.self.bytes.now
    a.new.self.at b.new.self.at d.new.self.at e.new.self.at c.requires a.ensures.written b.ensures.written d.ensures.written e.ensures.written
