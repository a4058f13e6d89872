-- `text::Text::put_word` meets its contract. Assumes nothing.
use mathlib.Core.List.{[], ◌∷◌, ◌++◌}
use mathlib.Core.Path.{◌≡◌, sym, ◌∙◌, ap}
use native.Mathlib.Omega.{arith}
use lib.ListN.{length}
use Rattle.text.specs.Text.{hex}
use Rattle.text.specs.Writes.{gap}
use Rattle.text.proofs.Texts.{length_hex, gap_first, gap_later, writes_as, writes_more}
use Rattle.text.proofs.Text.put_word.Goals as goal

pub put_digits-requires : goal.put_digits-requires
put_digits-requires c =
    let first : length (gap c.args.i ++ hex c.args.word) ≡ 8 = (let a = c.args in ap length (gap_first a.i a.word c.if-i-eq0.true) ∙ length_hex a.word) in
    omega (arith, first)

pub returns-then-i-eq0-clause-written : goal.returns-then-i-eq0-clause-written
unfolding hex
returns-then-i-eq0-clause-written c =
    let a = c.args in
    writes_as a.self.now.at (hex a.word) _ a.self.now.bytes.now _ _ (sym (gap_first a.i a.word c.if-i-eq0.true)) c.put_digits.ensures.written

pub put_digits-requires-else-i-eq0 : goal.put_digits-requires-else-i-eq0
put_digits-requires-else-i-eq0 c =
    let later : length (gap c.args.i ++ hex c.args.word) ≡ 9 = (let a = c.args in ap length (gap_later a.i a.word c.if-i-eq0.false) ∙ omega (arith, length_hex a.word)) in
    omega
    (arith, later, c.put_byte.ensures.written.next_is)

pub returns-else-i-eq0-clause-written : goal.returns-else-i-eq0-clause-written
unfolding hex
returns-else-i-eq0-clause-written c =
    let later : length (gap c.args.i ++ hex c.args.word) ≡ 9 = (let a = c.args in ap length (gap_later a.i a.word c.if-i-eq0.false) ∙ omega (arith, length_hex a.word)) in
    let a = c.args in
    let d = c.put_digits-else-i-eq0 in
    let p = c.put_byte in
    writes_as a.self.now.at (0x20 ∷ hex a.word) _ a.self.now.bytes.now _ _ (sym (gap_later a.i a.word c.if-i-eq0.false))
    (writes_more a.self.now.at (0x20 ∷ []) (hex a.word) a.self.now.bytes.now p.new.self.bytes.now d.new.self.bytes.now p.new.self.at d.new.self.at
    (omega (arith, later, length_hex a.word, c.requires)) p.ensures.written d.ensures.written)
