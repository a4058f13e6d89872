-- `face::lock` meets its contract. Assumes nothing.
use mathlib.Core.Path.{sym, subst}
use Rattle.std.proofs.Common.{T}
use Rattle.clarity.specs.Clarity.{lawful_of}
use Rattle.header.specs.declared.Header.{Header}
use Rattle.machine.proofs.Ends.{locks_lawful}
use Rattle.face.proofs.Answers.{header_or}
use Rattle.face.proofs.lock.Goals as goal

pub numbers_of-requires : goal.numbers_of-requires
numbers_of-requires c =
    subst (λ (k : Header). T (lawful_of k.clarity)) (sym (header_or _ _ c.unwrap_or_default.ensures)) (locks_lawful c.lock-relocked.ensures)
