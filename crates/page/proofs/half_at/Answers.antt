-- `page::half_at` meets its contract. Assumes nothing.
use mathlib.Core.Path.{sym, ◌∙◌}
use native.Mathlib.Omega.{arith}
use Rattle.page.proofs.Trailers.{half_of, half_bytes}
use Rattle.page.proofs.half_at.Goals as goal

pub returns : goal.returns
returns c =
    let a = c.args in
    (c.from_le_bytes.ensures ∙ half_bytes _ _ ∙ sym (half_of a.at a.file.now c.requires), omega arith)
