-- `text::Text::put_row` meets its contract. Assumes nothing.
use mathlib.Core.List.{List, [], ◌∷◌}
use mathlib.Core.Path.{◌≡◌, refl, ap, ◌∙◌}
use Prim.Native.Nat.{ℕ, ◌+◌, ◌≤◌}
use native.Mathlib.Omega.{arith}
use lib.ListN.{length, take}
use lib.Seq.{take_all}
use Rattle.text.specs.Text.{spaced, line}
use Rattle.text.proofs.Texts.{writes_none, writes_more, writes_word, word_room, length_line}
use Rattle.text.proofs.Text.put_row.Goals as goal

pub loop-i-init : goal.loop-i-init
loop-i-init c =
    let a = c.args in
    record { same = refl; long = refl; written = writes_none a.self.now.at a.self.now.bytes.now (omega arith) }

pub put_word-requires : goal.put_word-requires
put_word-requires c =
    let fits : c.args.self.now.at + length (spaced c.args.words.now) + 1 ≤ length c.args.self.now.bytes.now = omega (arith, c.requires, length_line (spaced c.args.words.now)) in
    let w = c.args.words.now in
    omega (arith, word_room w c.loop-i.i (omega arith), fits)

pub loop-i-preserved : goal.loop-i-preserved
loop-i-preserved c =
    let fits : c.args.self.now.at + length (spaced c.args.words.now) + 1 ≤ length c.args.self.now.bytes.now = omega (arith, c.requires, length_line (spaced c.args.words.now)) in
    let a = c.args in
    let s = c.loop-i in
    let p = c.put_word in
    record {
      same = p.ensures.same ∙ s.invariant.same;
      long = p.ensures.long ∙ s.invariant.long;
      written =
          writes_word a.self.now.at s.i a.words.now a.self.now.bytes.now s.self.bytes.now p.new.self.bytes.now s.self.at p.new.self.at
          (omega arith) (omega (arith, fits)) s.invariant.written p.ensures.written;
    }

pub put_byte-requires : goal.put_byte-requires
put_byte-requires c =
    let fits : c.args.self.now.at + length (spaced c.args.words.now) + 1 ≤ length c.args.self.now.bytes.now = omega (arith, c.requires, length_line (spaced c.args.words.now)) in
    let whole : take c.loop-i.i c.args.words.now ≡ c.args.words.now = take_all c.loop-i.i c.args.words.now (omega arith) in
    omega (arith, c.loop-i.invariant.written.next_is, ap (λ (s : List ℕ). length (spaced s)) whole, fits)

pub returns-clause-written : goal.returns-clause-written
unfolding line
returns-clause-written c =
    let fits : c.args.self.now.at + length (spaced c.args.words.now) + 1 ≤ length c.args.self.now.bytes.now = omega (arith, c.requires, length_line (spaced c.args.words.now)) in
    let whole : take c.loop-i.i c.args.words.now ≡ c.args.words.now = take_all c.loop-i.i c.args.words.now (omega arith) in
    let a = c.args in
    let p = c.put_byte in
    let f = rw whole at c.loop-i.invariant.written in
    writes_more a.self.now.at (spaced a.words.now) (0x0a ∷ []) a.self.now.bytes.now c.loop-i.self.bytes.now p.new.self.bytes.now c.loop-i.self.at p.new.self.at
    (omega (arith, fits)) f p.ensures.written
