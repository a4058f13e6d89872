-- `stale_runs::draw_stale` meets its contract. The stale ones of the row's first i blocks are drawn. Assumes nothing.
use mathlib.Core.Path.{◌≡◌, ap, ◌∙◌}
use Prim.Native.Nat.{ℕ, ◌+◌, ◌*◌}
use native.Mathlib.Omega.{arith}
use lib.ListN.{get_or}
use Rattle.marks.specs.Marks.{stale_in}
use Rattle.marks.proofs.Parts.{clear_row, run_one}
use Rattle.stale_runs.proofs.Loops.{buffers_still, draws_marks_length}
use Rattle.stale_runs.proofs.Rows.{row_of, run_at}
use Rattle.stale_runs.proofs.Swept.{swept_none}
use Rattle.stale_runs.proofs.Parts.{swept_columns, run_swept}
use Rattle.stale_runs.proofs.draw_stale.Goals as goal

pub bounds-marks-b : goal.bounds-marks-b
bounds-marks-b c =
    let a = c.args in
    let r = row_of a.frame a.tile.grid a.j c.requires.1.0.0 c.requires.0 c.requires.1.1 in
    omega (arith, r)

pub loop-i-preserved-then-marks-b-eq0 : goal.loop-i-preserved-then-marks-b-eq0
loop-i-preserved-then-marks-b-eq0 c =
    let f = c.args.frame in
    let w = f.picture.w in
    let t = c.args.tile.grid in
    let l = c.loop-i in
    let y : ℕ = t.y0 + c.args.j in
    let zero : get_or l.marks (y * w + t.x0 + l.i) 0 ≡ 0 = omega (arith, c.if-marks-b-eq0.true) in
    let at : y * w + (t.x0 + l.i) ≡ y * w + t.x0 + l.i = omega arith in (
      omega arith,
      l.invariant.1,
      swept_columns f (t.x0 + l.i) (omega arith) (omega arith) l.invariant.2
          (swept_none f l.output l.marks
          (clear_row w l.marks (t.x0 + l.i) (t.x0 + (l.i + 1)) y
          (run_one l.marks (y * w + (t.x0 + l.i)) (y * w + (t.x0 + (l.i + 1))) (omega arith)
          (ap (λ (b : ℕ). get_or l.marks b 0) at ∙ zero)))),
    )

pub slice_bounds-stale_run-end : goal.slice_bounds-stale_run-end
slice_bounds-stale_run-end c =
    let a = c.args in
    let r = row_of a.frame a.tile.grid a.j c.requires.1.0.0 c.requires.0 c.requires.1.1 in
    omega (arith, r)

pub overflow_cast-n : goal.overflow_cast-n
overflow_cast-n c = let r = run_at c.args.frame c.args.tile.grid c.args.j c.loop-i.i
    c.requires.1.0.0 c.requires.0 c.requires.1.1 c.loop-i.invariant.1 c.loop-i-test.true
    c.if-marks-b-eq0.false c.stale_run-n.ensures in omega (arith, r.few, c.requires.1.0.0.few_columns)

pub draw_run-requires : goal.draw_run-requires
draw_run-requires c =
    let r = run_at c.args.frame c.args.tile.grid c.args.j c.loop-i.i
    c.requires.1.0.0 c.requires.0 c.requires.1.1 c.loop-i.invariant.1 c.loop-i-test.true
    c.if-marks-b-eq0.false c.stale_run-n.ensures in
    ((r.some, (omega (arith, r.few), c.requires.0)), (c.requires.1.0, buffers_still c.requires.1.1 c.loop-i.auto.output c.loop-i.invariant.1))

pub overflow_add-i-else-marks-b-eq0 : goal.overflow_add-i-else-marks-b-eq0
overflow_add-i-else-marks-b-eq0 c = let r = run_at c.args.frame c.args.tile.grid c.args.j c.loop-i.i
    c.requires.1.0.0 c.requires.0 c.requires.1.1 c.loop-i.invariant.1 c.loop-i-test.true
    c.if-marks-b-eq0.false c.stale_run-n.ensures in omega (arith, r.few)

pub loop-i-smaller : goal.loop-i-smaller
loop-i-smaller c = let r = run_at c.args.frame c.args.tile.grid c.args.j c.loop-i.i
    c.requires.1.0.0 c.requires.0 c.requires.1.1 c.loop-i.invariant.1 c.loop-i-test.true
    c.if-marks-b-eq0.false c.stale_run-n.ensures in omega (arith, r.some)

pub loop-i-preserved : goal.loop-i-preserved
loop-i-preserved c =
    let f = c.args.frame in
    let w = f.picture.w in
    let t = c.args.tile.grid in
    let l = c.loop-i in
    let n = c.stale_run-n.result in
    let r = run_at c.args.frame c.args.tile.grid c.args.j c.loop-i.i
    c.requires.1.0.0 c.requires.0 c.requires.1.1 c.loop-i.invariant.1 c.loop-i-test.true
    c.if-marks-b-eq0.false c.stale_run-n.ensures in
    let d = c.draw_run.ensures in
    let y : ℕ = t.y0 + c.args.j in
    let at : y * w + (t.x0 + l.i) ≡ y * w + t.x0 + l.i = omega arith in (
      omega (arith, r.few),
      draws_marks_length f d ∙ l.invariant.1,
      swept_columns f (t.x0 + l.i) (omega arith) (omega arith) l.invariant.2
          (run_swept f (t.x0 + l.i) (t.x0 + (l.i + n)) y n r.some (omega arith) (omega (arith, r.few, c.requires.1.0.0.along))
          (ap (λ (b : ℕ). stale_in b (b + n) l.marks) at ∙ r.all_stale) d),
    )

pub shape_of-marks : goal.shape_of-marks
shape_of-marks c = c.loop-i.invariant.1
