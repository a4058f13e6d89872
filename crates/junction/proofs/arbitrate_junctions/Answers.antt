-- `junction::arbitrate_junctions` meets its contract: the number by flags is the source's. Assumes nothing.
use mathlib.Core.Path.{sym, ap, ◌∙◌}
use Rattle.junction.specs.Flags.{numbers_of}
use Rattle.junction.specs.Idle.{weightless_idle}
use Rattle.junction.proofs.Same.{same}
use Rattle.junction.proofs.arbitrate_junctions.Goals as goal

pub returns-then-weightless : goal.returns-then-weightless
returns-then-weightless c =
    let a = c.args in
    c.numbers_of.ensures
    ∙ ap (numbers_of a.m.tl a.m.t a.m.l a.m.c a.m.r a.m.bl a.m.b a.m.br)
    (sym (weightless_idle a.s.tl a.s.t a.s.tr a.s.l a.s.c a.s.r a.s.bl a.s.b a.s.br (sym c.weightless.ensures ∙ c.if-weightless.true)))
    ∙ sym (same a.m.tl a.m.t a.m.l a.m.c a.m.r a.m.bl a.m.b a.m.br a.s.tl a.s.t a.s.tr a.s.l a.s.c a.s.r a.s.bl a.s.b a.s.br)

pub returns : goal.returns
returns c =
    let a = c.args in
    c.numbers_of-2.ensures
    ∙ ap (numbers_of a.m.tl a.m.t a.m.l a.m.c a.m.r a.m.bl a.m.b a.m.br) c.active_corners-k.ensures
    ∙ sym (same a.m.tl a.m.t a.m.l a.m.c a.m.r a.m.bl a.m.b a.m.br a.s.tl a.s.t a.s.tr a.s.l a.s.c a.s.r a.s.bl a.s.b a.s.br)
