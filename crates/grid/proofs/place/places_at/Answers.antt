-- `grid::place::places_at` meets its contract. Assumes nothing.
use Rattle.std.proofs.Common.{rules}
use Rattle.grid.proofs.Moves.{apart}
use Rattle.grid.proofs.place.places_at.Goals as goal

pub returns : goal.returns
returns c = search (rules, apart)
