-- `stale_runs::draw_rows` meets its contract. The stale ones of the first j rows are drawn. Assumes nothing.
use mathlib.Core.Path.{◌≡◌, subst}
use Prim.Native.Nat.{ℕ, ◌+◌}
use native.Mathlib.Omega.{arith}
use Rattle.marks.specs.Marks.{Inside}
use Rattle.stale_runs.specs.Frames.{SweptOf}
use Rattle.stale_runs.proofs.Parts.{swept_rows}
use Rattle.stale_runs.proofs.draw_rows.Goals as goal

pub loop-j-preserved : goal.loop-j-preserved
loop-j-preserved c =
    let t = c.args.tile.grid in
    let f = c.args.frame in
    let l = c.loop-j in
    let d = c.draw_stale.ensures in
    let e : t.y0 + l.j + 1 ≡ t.y0 + (l.j + 1) = omega arith in
    let row = subst (λ (b : ℕ). SweptOf f (Inside f.picture.w t.x0 (t.x0 + t.cols) (t.y0 + l.j) b) l.output l.marks c.draw_stale.new.output
    c.draw_stale.new.marks) e d in
    swept_rows f (t.y0 + l.j) (omega arith) (omega arith) l.invariant row
