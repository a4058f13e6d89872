-- `face::open` meets its contract. Assumes nothing.
use mathlib.Core.Path.{sym, subst}
use Rattle.std.proofs.Common.{T}
use Rattle.clarity.specs.Clarity.{lawful_of}
use Rattle.calls.specs.declared.Opened.{Opened}
use Rattle.machine.proofs.Ends.{opens_lawful}
use Rattle.face.proofs.Answers.{opened_or}
use Rattle.face.proofs.open.Goals as goal

pub numbers_of-requires : goal.numbers_of-requires
numbers_of-requires c =
    subst (λ (k : Opened). T (lawful_of k.header.clarity)) (sym (opened_or _ _ c.unwrap_or_default-opened.ensures))
    (opens_lawful c.open-answer.ensures)
