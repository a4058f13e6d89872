-- `text::put_picture` meets its contract. Assumes nothing.
use Prim.Native.Nat.{◌+◌, ◌≤◌}
use native.Mathlib.Omega.{arith}
use mathlib.Core.List.{◌++◌}
use Rattle.text.specs.Writes.{Writes}
use lib.ListN.{length, length-append}
use Rattle.text.specs.Text.{rows, sides_text, picture_text}
use Rattle.text.proofs.Texts.{writes_more}
use Rattle.text.proofs.put_picture.Goals as goal

pub put_sides-requires : goal.put_sides-requires
unfolding picture_text
put_sides-requires c =
    let all : length (sides_text c.args.w c.args.h) + length (rows c.args.w c.args.h c.args.words.now) ≤ length c.args.text.now = (let a = c.args in omega (arith, length-append (sides_text a.w a.h) (rows a.w a.h a.words.now), c.requires)) in
    omega (arith, all)

pub put_rows-requires : goal.put_rows-requires
unfolding picture_text
put_rows-requires c =
    let all : length (sides_text c.args.w c.args.h) + length (rows c.args.w c.args.h c.args.words.now) ≤ length c.args.text.now = (let a = c.args in omega (arith, length-append (sides_text a.w a.h) (rows a.w a.h a.words.now), c.requires)) in
    omega (arith, all)

pub returns : goal.returns
unfolding picture_text
returns c =
    let all : length (sides_text c.args.w c.args.h) + length (rows c.args.w c.args.h c.args.words.now) ≤ length c.args.text.now = (let a = c.args in omega (arith, length-append (sides_text a.w a.h) (rows a.w a.h a.words.now), c.requires)) in
    let a = c.put_sides in
    let e = c.put_rows in
    let w : Writes 0 (sides_text c.args.w c.args.h ++ rows c.args.w c.args.h c.args.words.now) c.args.text.now e.new.self.bytes.now e.new.self.at =
    writes_more 0 (sides_text c.args.w c.args.h) (rows c.args.w c.args.h c.args.words.now) c.args.text.now
    a.new.self.bytes.now e.new.self.bytes.now a.new.self.at e.new.self.at (omega (arith, all)) a.ensures.written e.ensures.written in
    record { next_is = w.next_is; text_is = grind (arith, w.text_is) }
