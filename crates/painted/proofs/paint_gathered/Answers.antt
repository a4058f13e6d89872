-- `painted::paint_gathered` meets its contract. Assumes nothing.
use native.Mathlib.Omega.{arith}
use Rattle.std.proofs.lemmas.Result.{err_from_is_err_and}
use Rattle.painted.proofs.Promised.{list_told, list_free, list_counts, list_taken}
use Rattle.painted.proofs.paint_gathered.Goals as goal

pub returns-in_err-check_list : goal.returns-in_err-check_list
returns-in_err-check_list c =
    let a = c.args in
    let p = err_from_is_err_and c.from_residual.result c.from_residual.ensures.1 in
    rw (p.1, p.2)
    (list_told a.scale _ c.side.ensures a.header a.picture.now a.marks.now a.n a.a (omega arith) _ c.in_err-check_list.ensures)

pub store_items-requires : goal.store_items-requires
store_items-requires c =
    let a = c.args in
    list_free a.scale _ c.side.ensures a.header a.picture.now a.marks.now a.n a.a (omega arith) c.in_ok-check_list.ensures

pub count_stale-requires : goal.count_stale-requires
count_stale-requires c =
    let a = c.args in
    let s = c.store_items in
    list_counts a.scale _ c.side.ensures a.header a.picture.now a.marks.now a.n a.a (omega arith) c.in_ok-check_list.ensures
    s.new.picture s.new.marks s.ensures _ c.blocks-b.ensures

pub returns : goal.returns
returns c =
    let a = c.args in
    let s = c.store_items in
    list_taken a.scale _ c.side.ensures a.header a.picture.now a.marks.now a.n a.a (omega arith) c.in_ok-check_list.ensures
    s.new.picture s.new.marks s.ensures _ c.blocks-b.ensures _ c.count_stale.ensures
