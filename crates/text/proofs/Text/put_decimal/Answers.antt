-- `text::Text::put_decimal` meets its contract. Assumes nothing.
use native.Mathlib.Omega.{arith}
use Rattle.text.specs.Text.{decimal}
use Rattle.text.proofs.Texts.{length_decimal}
use Rattle.text.proofs.Text.put_decimal.Goals as goal

pub put_digits-requires : goal.put_digits-requires
put_digits-requires c = omega (arith, length_decimal c.args.n)

pub returns-clause-written : goal.returns-clause-written
unfolding decimal
returns-clause-written c = rw c.places_of.ensures at c.put_digits.ensures.written
