-- `paint_refusals::check_items` meets its contract. Assumes nothing.
use mathlib.Core.Path.{sym, ap, ◌∙◌}
use Rattle.std.proofs.lemmas.Result.{err_from_is_err_and}
use Rattle.paints.proofs.Laws.{turn}
use Rattle.machine.specs.Items.{refusal_items}
use Rattle.machine.proofs.ListEnds.{first_of, second_of}
use Rattle.refusals.proofs.Numbers.{numbered}
use Rattle.paint_refusals.proofs.check_items.Goals as goal

pub returns-in_err-check_word : goal.returns-in_err-check_word
returns-in_err-check_word c =
    let a = c.args in
    let l = c.loop-item in
    let word = c.in_err-check_word.ensures in
    let p = err_from_is_err_and c.from_residual.result c.from_residual.ensures.1 in
    rw (p.1, p.2)
    (word ∙ first_of _ _ (λ z. numbered _ (word ∙ z))
    ∙ sym (ap (refusal_items a.header a.picture.now) (turn a.items.now l.item-index c.loop-item-test.true)) ∙ l.invariant)

pub loop-item-preserved : goal.loop-item-preserved
loop-item-preserved c =
    let a = c.args in
    let l = c.loop-item in
    second_of _ _ (sym c.in_ok-check_word.ensures)
    ∙ sym (ap (refusal_items a.header a.picture.now) (turn a.items.now l.item-index c.loop-item-test.true)) ∙ l.invariant
