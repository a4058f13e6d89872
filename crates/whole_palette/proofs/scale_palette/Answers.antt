-- `whole_palette::scale_palette` meets its contract. Assumes nothing.
use mathlib.Core.Path.{sym, ap}
use native.Mathlib.Omega.{arith}
use Prim.Native.Nat.{◌≤◌}
use lib.ListN.{length}
use lib.Seq.{length-take-le}
use Rattle.picture.specs.Answer.{refusal_of as answered}
use Rattle.whole_palette.proofs.Called.{fits, done}
use Rattle.whole_palette.proofs.scale_palette.Goals as goal

pub replace-requires : goal.replace-requires
replace-requires c =
    let room : let a = c.args in let n = c.area-n.result in (n ≤ length a.picture.now) × (n ≤ length a.replaced.now) = (let a = c.args in
    fits a.clarity a.w a.h a.picture.now a.palette.now a.replaced.now a.output.now a.singles.now a.bytes.now _ _ _
    c.area-n.ensures (ap answered c.in_ok-refuse_by.was) c.refuse_by.ensures c.of-lent.ensures) in
    room

pub slice_bounds-scale-end : goal.slice_bounds-scale-end
slice_bounds-scale-end c =
    let room : let a = c.args in let n = c.area-n.result in (n ≤ length a.picture.now) × (n ≤ length a.replaced.now) = (let a = c.args in
    fits a.clarity a.w a.h a.picture.now a.palette.now a.replaced.now a.output.now a.singles.now a.bytes.now _ _ _
    c.area-n.ensures (ap answered c.in_ok-refuse_by.was) c.refuse_by.ensures c.of-lent.ensures) in
    omega (arith, room.1, c.replace.auto.replaced)

pub slice_bounds-scale-end-2 : goal.slice_bounds-scale-end-2
slice_bounds-scale-end-2 c =
    let room : let a = c.args in let n = c.area-n.result in (n ≤ length a.picture.now) × (n ≤ length a.replaced.now) = (let a = c.args in
    fits a.clarity a.w a.h a.picture.now a.palette.now a.replaced.now a.output.now a.singles.now a.bytes.now _ _ _
    c.area-n.ensures (ap answered c.in_ok-refuse_by.was) c.refuse_by.ensures c.of-lent.ensures) in
    sym (length-take-le _ _ (omega (arith, room.1, c.replace.auto.replaced)))

pub returns : goal.returns
returns c =
    let a = c.args in
    done a.clarity a.w a.h a.picture.now a.palette.now a.replaced.now a.output.now a.singles.now a.bytes.now _ _ _
    c.area-n.ensures (ap answered c.in_ok-refuse_by.was) c.refuse_by.ensures c.of-lent.ensures
    _ _ _ _ _ c.replace.ensures c.scale.ensures
