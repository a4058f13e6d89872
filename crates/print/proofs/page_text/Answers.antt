-- `print::page_text` meets its contract. Assumes nothing.
use mathlib.Core.Path.{refl, sym}
use Prim.Native.Nat.{◌≤◌}
use native.Mathlib.Omega.{arith}
use lib.ListN.{length, take}
use Rattle.std.specs.Prelude.{Ok, Err}
use Rattle.picture.specs.Answer.{number_of}
use Rattle.page.specs.Answers.{page_answer}
use Rattle.page.proofs.Files.{numbered}
use Rattle.text.proofs.Sizes.{refused_most, enlarged_most, prints_long, prints_number, prints_page, Ready, ready}
use Rattle.print.proofs.page_text.Goals as goal

pub put_refusal-requires : goal.put_refusal-requires
put_refusal-requires c = omega (arith, refused_most 9)

pub returns-then-file-gt-FILE : goal.returns-then-file-gt-FILE
returns-then-file-gt-FILE c =
    prints_long c.args.file.now c.args.text.now _ _
    (omega (arith, c.if-file-gt-FILE.true)) c.put_refusal.ensures

pub put_refusal-requires-in-Err : goal.put_refusal-requires-in-Err
put_refusal-requires-in-Err c = omega (arith, refused_most (number_of c.in-Err.refusal))

pub returns-in-Err : goal.returns-in-Err
returns-in-Err c =
    prints_number c.args.file.now _ c.read_page.new.picture (page_answer (Err c.in-Err.refusal)) refl (omega (arith, c.if-file-gt-FILE.false)) c.in-Err.ensures
    c.args.text.now _ _ (numbered c.in-Err.refusal) c.put_refusal-in-Err.ensures

pub slice_bounds-picture-end : goal.slice_bounds-picture-end
slice_bounds-picture-end c =
    let short : length c.args.file.now ≤ 4108 = omega (arith, c.if-file-gt-FILE.false) in
    let is_ready : Ready c.read_page.new.picture (page_answer (Ok c.in-Ok.page)) = ready c.args.file.now _ c.read_page.new.picture (page_answer (Ok c.in-Ok.page)) refl short c.in-Ok.ensures refl in
    omega (arith, is_ready, c.read_page.auto.picture, c.pixels.ensures)

pub slice_bounds-put_enlarged-end : goal.slice_bounds-put_enlarged-end
slice_bounds-put_enlarged-end c =
    let short : length c.args.file.now ≤ 4108 = omega (arith, c.if-file-gt-FILE.false) in
    let is_ready : Ready c.read_page.new.picture (page_answer (Ok c.in-Ok.page)) = ready c.args.file.now _ c.read_page.new.picture (page_answer (Ok c.in-Ok.page)) refl short c.in-Ok.ensures refl in
    rw c.pixels.ensures (sym is_ready.long_enough)

pub put_enlarged-requires : goal.put_enlarged-requires
put_enlarged-requires c =
    let short : length c.args.file.now ≤ 4108 = omega (arith, c.if-file-gt-FILE.false) in
    let page = c.in-Ok.page in
    let k = c.read_page in
    let p : Ready k.new.picture (page_answer (Ok page)) = ready c.args.file.now _ k.new.picture (page_answer (Ok page)) refl short c.in-Ok.ensures refl in
    record {
      w_bound = (p.w_small, p.h_small, p.few, rw c.pixels.ensures (omega (arith, p.long_enough)));
      picture_in_bounds = omega (arith, enlarged_most page.w page.h (take c.pixels.result k.new.picture) p.h_small p.few);
    }

pub returns-in-Ok : goal.returns-in-Ok
returns-in-Ok c =
    let short : length c.args.file.now ≤ 4108 = omega (arith, c.if-file-gt-FILE.false) in
    prints_page c.args.file.now _ c.read_page.new.picture (page_answer (Ok c.in-Ok.page)) refl short c.in-Ok.ensures refl
    c.args.text.now _ _ (rw c.pixels.ensures at c.put_enlarged.ensures)
