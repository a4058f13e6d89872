-- `single::parts_of` meets its contract: `Nearest.antt` has each fact. Assumes nothing.
use Rattle.single.proofs.Nearest.{low_shift, low_parts, high_parts}
use Rattle.single.proofs.parts_of.Goals as goal

pub overflow_sub-z : goal.overflow_sub-z
overflow_sub-z c = (low_shift c.args.b c.requires.0 c.if-b-lt8388608.true).0

pub returns-then-b-lt8388608 : goal.returns-then-b-lt8388608
returns-then-b-lt8388608 c = low_parts c.args.b c.requires.0 c.if-b-lt8388608.true

pub returns-else-b-lt8388608 : goal.returns-else-b-lt8388608
returns-else-b-lt8388608 c = high_parts c.args.b c.if-b-lt8388608.false c.requires.1
