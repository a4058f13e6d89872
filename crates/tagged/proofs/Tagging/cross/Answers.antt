-- `tagged::Tagging::cross` meets its contract: the four records are those at the distance d. Assumes nothing.
use mathlib.Core.Path.{◌≡◌}
use Prim.Native.Nat.{suc, ◌-◌}
use native.Mathlib.Omega.{arith}
use lib.IntN.{pos, negsuc}
use Rattle.grid.specs.Grid.{junctions_field}
use Rattle.grid.proofs.Moves.{stay}
use Rattle.grid.proofs.Reading.{near_at}
use Rattle.tagged.proofs.Tagging.cross.Goals as goal

pub returns : goal.returns
unfolding junctions_field
returns c =
    let a = c.args in
    let s = a.self.now in
    let p = c.requires.0 in
    let f = junctions_field s.junctions.of s.junctions.elements.now in
    let sx = stay s.w a.x p.on_x in
    let sy = stay s.h a.y p.on_y in
    let d = a.d in
    let above : d ≡ suc (d - 1) = omega (arith, c.requires.1.0) in
    let xs = c.places_at-xs.ensures in
    let ys = c.places_at-ys.ensures in
    let left = near_at f s.w s.h a.x a.y (negsuc (d - 1)) (pos 0) (xs.before_is (d - 1) above) sy c.at.ensures in
    let right = near_at f s.w s.h a.x a.y (pos d) (pos 0) xs.after_is sy c.at-2.ensures in
    let up = near_at f s.w s.h a.x a.y (pos 0) (negsuc (d - 1)) sx (ys.before_is (d - 1) above) c.at-3.ensures in
    let down = near_at f s.w s.h a.x a.y (pos 0) (pos d) sx ys.after_is c.at-4.ensures in
    rw (left, right, up, down)
