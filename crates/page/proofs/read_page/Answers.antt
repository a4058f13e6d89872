-- `page::read_page` meets its contract. Assumes nothing.
use mathlib.Core.Path.{◌≡◌, refl}
use Prim.Native.Nat.{◌+◌, ◌*◌, ◌≤◌}
use native.Mathlib.Omega.{arith}
use lib.ListN.{length}
use Rattle.std.specs.Prelude.{Err}
use Rattle.std.proofs.Common.{rules}
use Rattle.page.proofs.Files.{all_of_it, refused_reads, filled_reads, numbered}
use Rattle.page.proofs.read_page.Goals as goal

pub returns-in_err-page : goal.returns-in_err-page
returns-in_err-page c =
    let same : c.from_residual.result ≡ Err c.in_err-page.field-0.0 = search rules in
    rw same (refused_reads c.args.file.now c.args.picture.now _ c.in_err-page.ensures (numbered c.in_err-page.field-0.0))

pub fill-requires : goal.fill-requires
fill-requires c =
    let p = c.in_ok-page.page in
    let room : (length c.args.file.now ≡ 12 + 4 * (p.w * p.h)) × (p.w * p.h ≤ length c.args.picture.now) =
    all_of_it c.args.file.now _ _ c.in_ok-page.ensures refl in
    omega (arith, room, c.pixels.ensures)

pub returns : goal.returns
returns c =
    let f = c.args.file.now in
    let filled = rw c.pixels.ensures at c.fill.ensures in
    filled_reads f c.args.picture.now _ c.in_ok-page.ensures c.fill.new.picture refl filled
