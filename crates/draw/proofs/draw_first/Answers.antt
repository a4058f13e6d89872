-- `draw::draw_first` meets its contract. The first n stale blocks of the rows before y are drawn. Assumes nothing.
use mathlib.Core.Path.{◌≡◌, refl, sym, ap, ◌∙◌, subst}
use mathlib.Core.List.{[]}
use Prim.Native.Nat.{ℕ, ◌+◌, ◌-◌, ◌*◌, ◌≤◌}
use native.Mathlib.Nat.{mul-le-mul_right, mul_comm, le_antisymm}
use native.Mathlib.Omega.{arith}
use Rattle.machine.specs.Lists.{count}
use Rattle.picture.specs.Fill.{add_one_mul}
use Rattle.machine.proofs.Places.{row_end}
use Rattle.marks.specs.Marks.{stale_in, chosen}
use Rattle.marks.proofs.Counts.{count_run_le, none_wanted, none_left, none_stale}
use Rattle.screens.specs.declared.frame.Frame.{Frame}
use Rattle.screens.specs.Frames.{Buffers}
use Rattle.stale_runs.specs.Frames.{FirstOf}
use Rattle.stale_runs.proofs.Loops.{first_none, first_few, first_more, draws_marks_length}
use Rattle.stale_runs.proofs.Rows.{frame_small}
use Rattle.draw.proofs.draw_first.Goals as goal
use Rattle.draw.proofs.draw_first.Goals.{then-loop-y-test+else-stale-n, else-loop-y-test}

-- the rows before y lie within the picture and the marks
record Rows (f : Frame) (y m : ℕ) : Type 0 where
  within : y * f.picture.w ≤ f.picture.w * f.picture.h
  marked : f.picture.w * f.picture.h ≤ m
  few : f.picture.w * f.picture.h ≤ 4194304

rows_of : (f : Frame) (y : ℕ) {o m : ℕ} → Buffers f o m → y ≤ f.picture.h → Rows f y m
rows_of f y b l = record {
  within = omega (arith, mul-le-mul_right f.picture.w l);
  marked = b.for_marks;
  few = (frame_small f).few;
}

pub loop-y-preserved-then-count_stale-eq0 : goal.loop-y-preserved-then-count_stale-eq0
loop-y-preserved-then-count_stale-eq0 c =
    let f = c.args.frame in
    let w = f.picture.w in
    let l = c.loop-y in
    let lo = l.y * w in
    let e : (l.y + 1) * w ≡ lo + w = add_one_mul l.y w in
    let row = row_end w f.picture.h l.y (omega arith) in
    let zero : 0 ≡ c.count_stale.result = omega (arith, c.if-count_stale-eq0.true) in
    let none = zero ∙ c.count_stale.ensures ∙ ap (λ (j : ℕ). count (stale_in lo j l.marks)) (sym e) in (
      omega arith,
      first_more f (omega (arith, e)) (omega (arith, e, row, c.requires.for_marks)) (omega arith) l.invariant.1
          (first_none f l.output l.marks none (none_stale lo ((l.y + 1) * w) (c.args.n - l.stale) l.marks (sym none))),
    )

pub overflow_add-stale : goal.overflow_add-stale
overflow_add-stale c =
    let f = c.args.frame in
    let l = c.loop-y in
    let r = rows_of f l.y c.requires l.invariant.0 in
    let b = c.min-bottom in
    let low : b.result ≤ f.picture.h = omega (arith, b.ensures) in
    let end = mul-le-mul_right f.picture.w low in
    omega (
      arith,
      r,
      end,
      first_few f (omega (arith, r)) l.invariant.1,
      first_few f (omega (arith, r, end, draws_marks_length f l.invariant.1.draws)) c.draw_band-stale.ensures,
    )

pub loop-y-preserved : goal.loop-y-preserved
loop-y-preserved c =
    let f = c.args.frame in
    let l = c.loop-y in
    let e = c.min-bottom.ensures in
    let down : l.y ≤ c.min-bottom.result = omega (arith, e) in
    let low : c.min-bottom.result ≤ f.picture.h = omega (arith, e) in (
      low,
      first_more f (mul-le-mul_right f.picture.w down) (omega (arith, mul-le-mul_right f.picture.w low, c.requires.for_marks)) refl l.invariant.1
          c.draw_band-stale.ensures,
    )

pub overflow_add-result : goal.overflow_add-result
overflow_add-result c =
    let f = c.args.frame in
    let l = c.loop-y in
    let r = rows_of f l.y c.requires l.invariant.0 in
    omega (
      arith,
      r,
      first_few f (omega (arith, r)) l.invariant.1,
      c.count_stale-2.ensures,
      count_run_le (l.y * f.picture.w) (f.picture.h * f.picture.w) l.marks (omega (arith, r, draws_marks_length f l.invariant.1.draws)),
    )

pub returns : goal.returns
returns c =
    let f = c.args.frame in
    let w = f.picture.w in
    let h = f.picture.h in
    let n = c.args.n in
    let l = c.loop-y in
    let r = rows_of f l.y c.requires l.invariant.0 in
    let none : chosen (l.y * w) (h * w) (n - l.stale) l.marks ≡ [] =
    elim c.loop-y-test.branch [
      | then-loop-y-test+else-stale-n w' ↦ none_wanted (l.y * w) (h * w) n l.stale l.marks (omega arith)
      | else-loop-y-test w' ↦ none_left (l.y * w) (h * w) (n - l.stale) l.marks (ap (λ (y : ℕ). y * w) (le_antisymm l.invariant.0 (omega arith)))
    ] in
    subst (λ (j : ℕ). FirstOf f 0 j n c.args.output.now c.args.marks.now l.output l.marks (l.stale + c.count_stale-2.result)) (mul_comm h w)
    (first_more f (omega (arith, r)) (omega (arith, c.requires.for_marks)) refl l.invariant.1
    (first_none f l.output l.marks c.count_stale-2.ensures none))
