-- `tiles::draw_tile` meets its contract. Assumes nothing.
use Rattle.tiles.proofs.Shown.{shown_three}
use Rattle.tiles.proofs.draw_tile.Goals as goal

pub draw_from-requires : goal.draw_from-requires
draw_from-requires c =
    let a = c.args in
    (c.requires.0, (shown_three a.frame a.t c.if-frame-eq-NINE.false c.requires.0, c.requires.1))
