-- What the loop keeps.
use Rattle.picture.specs.Picture.{words}
use Rattle.block.specs.StoreLaws.{Rected}
use Rattle.stored.specs.Room.{rect_blocks}
use Rattle.stored.proofs.put_rect.Given as goal

abbrev pub invariant-loop-j : goal.invariant-loop-j
invariant-loop-j l = Rected l.ow 0 l.g.cols l.j (rect_blocks l.picture.w l.picture.h (words l.picture.w l.picture.words.now) l.g l.tags l.stride) l.initial.out l.out
