-- `tag_words::put_block` meets its contract: the rows are stored from above, and the copies below stand. Assumes nothing.
use native.Mathlib.Omega.{arith}
use mathlib.Core.Path.{refl, ◌∙◌, ap}
use Prim.Native.Nat.{◌+◌, ◌*◌}
use Rattle.picture.specs.Fill.{put}
use Rattle.block.specs.Block.{block_from}
use Rattle.block.specs.Drawn.{third, put_block}
use Rattle.tag_words.specs.Pixel.{named, block}
use Rattle.tag_words.proofs.Rows.{corners, mids, middle_stands, bottom_stands}
use Rattle.tag_words.proofs.put_block.Goals as goal

pub returns : goal.returns
unfolding put_block block_from
returns c =
    let a = c.args in
    let p = a.pixel in
    let t = a.t in
    let q = c.requires in
    let b = block p t in
    let e₁ = rw (c.put_named-2.ensures, c.put_named.ensures) at c.put_named-3.ensures ∙ corners p a.out.now a.at t.t0 t.t0 t.t1 _ _ _ c.corner.ensures c.mid.ensures c.corner-2.ensures
    (omega (arith, q.0)) q.1.1.top in
    let m = middle_stands a.ow a.at (named p 0) _ a.out.now _ e₁ refl q.1.0 q.0 q.1.1 in
    let e₂ = rw c.put_named-4.ensures at c.put_named-5.ensures ∙ mids p _ (a.at + a.ow) t.t3 t.t1 _ _ c.mid-2.ensures c.mid-3.ensures m.0 m.1 in
    let n = bottom_stands a.ow a.at (named p 0) _ _ a.out.now _ _ e₁ e₂ refl refl q.1.0 q.0 q.1.1 in
    let e₃ = rw (c.put_named-7.ensures, c.put_named-6.ensures) at c.put_named-8.ensures ∙ corners p _ (a.at + 2 * a.ow) t.t3 t.t2 t.t2 _ _ _ c.corner-3.ensures c.mid-4.ensures c.corner-4.ensures
    n.0 n.1 in
    e₃ ∙ ap (put (a.at + 2 * a.ow) (third 2 b)) (e₂ ∙ ap (put (a.at + a.ow) (third 1 b)) e₁)
