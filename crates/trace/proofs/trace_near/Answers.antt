-- `trace::trace_near` meets its contract. Assumes nothing.
use mathlib.Core.Path.{◌≡◌, refl, ◌∙◌, sym, ap}
use mathlib.Core.Bool.{true, false}
use borrow.Author.Tests.{eq-eqb, ne_eqb}
use Rattle.tag.specs.declared.Far.{Far}
use Rattle.tag.specs.Words.{split_of, nothing}
use Rattle.tag.proofs.Exits.{near_made, near_none}
use Rattle.trace.proofs.trace_near.Goals as goal

-- a default is `nothing`
defaulted : (f : Far) → (f.corners.first ≡ 0 × (f.corners.second ≡ 0 × f.corners.tag ≡ 0)) × (f.mids.first ≡ 0 × (f.mids.any ≡ 0 × f.mids.tag ≡ 0)) → f ≡ nothing
defaulted f e = λ i. record {
  corners = record { first = e.0.0 i; second = e.0.1.0 i; tag = e.0.1.1 i };
  mids = record { first = e.1.0 i; any = e.1.1.0 i; tag = e.1.1.1 i };
}

pub returns-then-p-ne0 : goal.returns-then-p-ne0
returns-then-p-ne0 c =
    let a = c.args in
    near_made a.e a.near.left a.near.right a.near.up a.near.down false c.word-w.ensures c.around-n.ensures c.level4_near-p.ensures
    (ne_eqb _ 0 c.if-p-ne0.true) refl

pub returns-then-w-eq0 : goal.returns-then-w-eq0
returns-then-w-eq0 c =
    let a = c.args in
    near_made a.e a.near.left a.near.right a.near.up a.near.down true c.word-w.ensures c.around-n.ensures c.level4_near-p.ensures
    (eq-eqb _ 0 c.if-p-ne0.false)
    (c.split.ensures ∙ ap split_of (sym (near_none c.word-w.result c.around-n.result c.if-w-eq0.true)))

pub returns : goal.returns
returns c =
    let a = c.args in
    near_made a.e a.near.left a.near.right a.near.up a.near.down true c.word-w.ensures c.around-n.ensures c.level4_near-p.ensures
    (eq-eqb _ 0 c.if-p-ne0.false)
    (c.split-2.ensures ∙ ap split_of (rw (defaulted c.default-f.result c.default-f.ensures) at c.tags_word.ensures))
