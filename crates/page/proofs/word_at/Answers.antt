-- `page::word_at` meets its contract. Assumes nothing.
use mathlib.Core.Path.{sym, ◌∙◌}
use native.Mathlib.Omega.{arith}
use Rattle.page.proofs.Trailers.{word_of, word_bytes}
use Rattle.page.proofs.word_at.Goals as goal

pub returns : goal.returns
returns c =
    let a = c.args in
    (c.from_le_bytes.ensures ∙ word_bytes _ _ _ _ ∙ sym (word_of a.at a.file.now c.requires), omega arith)
