-- `text::Text::put_byte` meets its contract. Assumes nothing.
use Rattle.text.proofs.Texts.{writes_byte}
use Rattle.text.proofs.Text.put_byte.Goals as goal

pub returns-clause-written : goal.returns-clause-written
returns-clause-written c = writes_byte c.args.self.now.at c.args.byte c.args.self.now.bytes.now c.requires
