-- `stored::put_rect` meets its contract: the invariant says that the first j rows of blocks stand. Assumes nothing.
use native.Mathlib.Omega.{arith}
use mathlib.Core.Path.{ap}
use Prim.Native.Nat.{◌+◌, ◌*◌}
use Rattle.picture.specs.Picture.{words}
use Rattle.picture.specs.Fill.{chunk}
use Rattle.block.specs.Block.{block_from}
use Rattle.block.specs.StoreLaws.{rected_none, rected_more}
use Rattle.stored.specs.Room.{rect_blocks}
use Rattle.stored.proofs.Parts.{tags_from, row_from}
use Rattle.stored.proofs.put_rect.Goals as goal

pub loop-j-init : goal.loop-j-init
loop-j-init c =
    let a = c.args in
    rected_none a.ow 0 a.g.cols (rect_blocks a.picture.w a.picture.h (words a.picture.w a.picture.words.now) a.g a.tags.now a.stride) a.out.now

pub loop-j-preserved : goal.loop-j-preserved
loop-j-preserved c =
    let s = c.loop-j in
    let a = c.args in
    let at = s.j * (3 * a.ow) in
    rected_more a.ow 0 a.g.cols s.j (rect_blocks a.picture.w a.picture.h (words a.picture.w a.picture.words.now) a.g a.tags.now a.stride) a.out.now
    s.out _ at _ (omega (arith, chunk s.j a.g.rows (3 * a.ow) c.loop-j-test.true)) s.invariant (omega arith)
    (λ i h. ap (block_from a.picture.w a.picture.h (words a.picture.w a.picture.words.now) (a.g.x0 + i) (a.g.y0 + s.j))
    (tags_from a.tags.now (s.j * a.stride) (i * 4)))
    (row_from a.ow a.g.cols at _ s.out c.put_row.new.out
    (omega (arith, chunk s.j a.g.rows (3 * a.ow) c.loop-j-test.true, s.invariant.long)) c.put_row.ensures)
