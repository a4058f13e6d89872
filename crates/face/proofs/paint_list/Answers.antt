-- `face::paint_list` meets its contract. Assumes nothing.
use mathlib.Core.Path.{subst, sym}
use mathlib.Core.List.{map}
use lib.ListN.{length, length-map}
use Rattle.picture.specs.Answer.{refusal_of}
use Rattle.header.specs.declared.Header.{Header}
use Rattle.machine.specs.Calls.{PaintListEnd, PaintLists}
use Rattle.machine.proofs.ListEnds.{list_gathered}
use Rattle.screens.specs.Screens.{screen_of}
use Rattle.painted.specs.Answers.{count_in}
use Rattle.arrays.specs.Item.{paint_of}
use Rattle.face.proofs.Answers.{count_or}
use Rattle.face.proofs.paint_list.Goals as goal

pub returns : goal.returns
returns c =
    let a = c.args in
    let p = c.paint_gathered-answer in
    let end : PaintListEnd = record {
      picture = p.new.picture;
      marks = p.new.marks;
      refusal = refusal_of p.result;
      stale = count_in p.result;
    } in
    let items = map paint_of a.items.now in
    let few = c.few in
    let got = c.paints_of-a in
    let same = list_gathered (screen_of a.scale) _ a.picture.now a.marks.now items (length a.items.now) few.result got.result end
    (sym (length-map a.items.now paint_of)) few.ensures.0 got.ensures p.ensures in
    rw (c.number.ensures, count_or _ _ c.unwrap_or_default.ensures)
    (subst (λ (k : Header). PaintLists (screen_of a.scale) k a.picture.now a.marks.now items end) c.header_of-lent.ensures same)
