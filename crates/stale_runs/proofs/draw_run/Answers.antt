-- `stale_runs::draw_run` meets its contract. Assumes nothing.
use mathlib.Core.Path.{ap}
use Prim.Native.Nat.{ℕ, ◌*◌}
use native.Mathlib.Omega.{arith}
use lib.Dec.{eqb}
use Rattle.stale_runs.proofs.Rows.{row_of}
use Rattle.stale_runs.proofs.Runs.{source_row}
use Rattle.stale_runs.proofs.Put.{tags_within, words_within, run_fits, rest_words, run_put}
use Rattle.stale_runs.proofs.draw_run.Goals as goal

pub overflow_add-g-2 : goal.overflow_add-g-2
overflow_add-g-2 c =
    let a = c.args in
    let f = a.frame in
    let k = c.requires.0 in
    omega (
      arith,
      source_row (eqb f.scale 9) f.clarity f.picture.w f.picture.h f.picture.words.now a.tile.tags.now a.tile.grid a.tile.source c.requires.1.0.1
          a.i a.j a.n k.1.0 k.1.1,
      ap (λ (m : ℕ). m * a.j) c.cells-m.ensures,
    )

pub slice_bounds-put_rect-count : goal.slice_bounds-put_rect-count
slice_bounds-put_rect-count c =
    let a = c.args in
    let r = c.requires in
    tags_within a.frame a.tile a.i a.j a.n _ _ r.0.1.0 r.0.1.1 r.1.0 r.1.1 c.cells-m.ensures c.corner-at.ensures

pub slice_bounds-put_rect-start : goal.slice_bounds-put_rect-start
slice_bounds-put_rect-start c =
    let a = c.args in
    let r = c.requires in
    tags_within a.frame a.tile a.i a.j a.n _ _ r.0.1.0 r.0.1.1 r.1.0 r.1.1 c.cells-m.ensures c.corner-at.ensures

pub slice_bounds-put_rect-count-2 : goal.slice_bounds-put_rect-count-2
slice_bounds-put_rect-count-2 c =
    let a = c.args in
    let r = c.requires in
    words_within a.frame a.tile a.i a.j a.n _ _ r.0.1.0 r.0.1.1 r.1.0 r.1.1 c.cells-m.ensures c.corner-at.ensures

pub slice_bounds-put_rect-start-2 : goal.slice_bounds-put_rect-start-2
slice_bounds-put_rect-start-2 c =
    let a = c.args in
    let r = c.requires in
    words_within a.frame a.tile a.i a.j a.n _ _ r.0.1.0 r.0.1.1 r.1.0 r.1.1 c.cells-m.ensures c.corner-at.ensures

pub put_rect-requires : goal.put_rect-requires
put_rect-requires c =
    let a = c.args in
    let r = c.requires in
    run_fits a.frame a.tile a.i a.j a.n _ _ r.0.1.0 r.0.1.1 r.1.0 r.1.1 c.cells-m.ensures c.corner-at.ensures (rest_words c.corner-at.result a.output.now)

pub clear_run-requires : goal.clear_run-requires
clear_run-requires c =
    let a = c.args in
    let r = row_of a.frame a.tile.grid a.j c.requires.1.0.0 c.requires.0.1.1 c.requires.1.1 in
    omega (arith, r)

pub returns : goal.returns
returns c =
    let a = c.args in
    let r = c.requires in
    record {
      output_now =
          run_put a.frame a.tile a.i a.j a.n _ _ a.output.now c.put_rect.new.out r.0.1.0 r.0.1.1 r.1.0 r.1.1 c.cells-m.ensures c.corner-at.ensures
          c.put_rect.ensures;
      marks_now = c.clear_run.ensures;
    }
