-- What the loop keeps.
use Rattle.block.specs.StoreLaws.{Rowed}
use Rattle.stored.specs.Room.{run_blocks}
use Rattle.stored.proofs.put_tagged.Given as goal

abbrev pub invariant-loop-i : goal.invariant-loop-i
invariant-loop-i l = Rowed l.ow 0 l.i (run_blocks l.run l.tags) l.initial.out l.out
