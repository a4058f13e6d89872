-- `tiles::enlarge` meets its contract. Assumes nothing.
use mathlib.Core.Path.{◌∙◌}
use Prim.Native.Nat.{ℕ, ◌*◌}
use lib.ListN.{length, replicate, length-replicate}
use Rattle.stale_runs.specs.declared.Source.{Source}
use Rattle.tiles.proofs.Tagged.{rect_room, rect_drawn}
use Rattle.tiles.proofs.enlarge.Goals as goal

pub put_rect-requires : goal.put_rect-requires
put_rect-requires c =
    let a = c.args in
    let s : Source = record { picture = a.p; x = a.g.x0; y = a.g.y0 } in
    rect_room a.clarity s a.g.cols a.g.rows (replicate 2352 0) _
    c.tags_tile.ensures c.requires.0 (length-replicate {A = ℕ} 2352 0) (length a.window.now) c.requires.1

pub returns : goal.returns
returns c =
    let a = c.args in
    let s : Source = record { picture = a.p; x = a.g.x0; y = a.g.y0 } in
    c.put_rect.ensures
    ∙ rect_drawn a.clarity s a.g.cols a.g.rows (replicate 2352 0) _
    c.tags_tile.ensures c.requires.0 (length-replicate {A = ℕ} 2352 0) (3 * a.g.cols) 0 a.window.now
