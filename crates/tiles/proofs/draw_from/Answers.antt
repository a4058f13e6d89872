-- `tiles::draw_from` meets its contract. Assumes nothing.
use mathlib.Core.Path.{sym, ap, subst}
use Prim.Native.Nat.{ℕ, ◌*◌}
use native.Mathlib.Omega.{arith}
use lib.ListN.{replicate, length-replicate}
use Rattle.picture.specs.Picture.{words}
use Rattle.passes.specs.Window.{Tile}
use Rattle.stale_runs.specs.Tiles.{cells_of, last_pass}
use Rattle.tiles.proofs.Tagged.{ready}
use Rattle.tiles.proofs.draw_from.Goals as goal

pub tags_tile-requires : goal.tags_tile-requires
tags_tile-requires c =
    let t = c.args.t in
    let s = c.args.source in
    (subst (λ (m : ℕ). Tile s.picture.w s.picture.h s.x s.y (m * t.cols) (m * t.rows)) (sym c.cells-m.ensures) c.requires.1.0.held, omega arith)

pub draw_rows-requires : goal.draw_rows-requires
draw_rows-requires c =
    let f = c.args.frame in
    let t = c.args.t in
    let s = c.args.source in
    let m = c.cells-m.result in
    let e = c.cells-m.ensures in
    let shows = c.requires.1.0 in
    let tile = subst (λ (m : ℕ). Tile s.picture.w s.picture.h s.x s.y (m * t.cols) (m * t.rows)) (sym e) shows.held in
    let across = ap (λ (m : ℕ). m * t.cols) e in
    let down = ap (λ (m : ℕ). m * t.rows) e in (
      (
        c.requires.0,
        ready f.clarity s (m * t.cols) (m * t.rows) (replicate 2352 0) _ c.tags_tile.ensures tile (length-replicate {A = ℕ} 2352 0)
            (cells_of f.scale) (last_pass f.scale f.clarity f.picture.w f.picture.h (words f.picture.w f.picture.words.now)) t (sym across) (sym down)
            (λ i j hi hj. shows.each i j (omega (arith, hi, across)) (omega (arith, hj, down))),
      ),
      c.requires.1.1,
    )
