-- `trace::trace_edges` meets its contract. Assumes nothing.
use mathlib.Core.Path.{◌∙◌}
use Rattle.tag.proofs.Exits.{whole}
use Rattle.trace.proofs.trace_edges.Goals as goal

pub returns : goal.returns
returns c =
    let a = c.args in
    (rw (
      c.tags_word.ensures,
      c.farther-f.ensures,
      c.level4_near-p.ensures,
      c.around-n.ensures,
      c.word-w.ensures,
    ) at c.split.ensures)
    ∙ whole a.e a.d1.left a.d2.left a.d3.left a.d1.right a.d2.right a.d3.right a.d1.up a.d2.up a.d3.up a.d1.down a.d2.down a.d3.down
