-- `page::fill` meets its contract. Assumes nothing.
use mathlib.Core.List.{[], ◌∷◌}
use mathlib.Core.Path.{◌≡◌, refl, sym, ◌∙◌, ap}
use Prim.Native.Nat.{ℕ, ◌+◌, ◌*◌}
use native.Mathlib.Nat.{zero-add}
use native.Mathlib.Omega.{arith}
use lib.ListN.{set}
use Rattle.picture.specs.Fill.{fill_none, fill_more, fill_done}
use Rattle.page.specs.Page.{little_endian, part, words_from}
use Rattle.page.proofs.Files.{set_put}
use Rattle.page.proofs.fill.Invariants.{words}
use Rattle.page.proofs.fill.Goals as goal

pub loop-i-init : goal.loop-i-init
loop-i-init c =
    let a = c.args in fill_none 0 1 (words a.file.now) a.picture.now (omega arith)

pub loop-i-preserved : goal.loop-i-preserved
loop-i-preserved c =
    let s = c.loop-i in
    let a = c.args in
    let i = s.i in
    let f = a.file.now in
    let word : c.word_at.result ≡ little_endian (part (0 + 4 * i) 4 f) =
    c.word_at.ensures.0 ∙ ap (λ (k : ℕ). little_endian (part k 4 f)) (sym (zero-add (4 * i))) in
    fill_more 0 1 i (words f) a.picture.now s.picture (set s.picture i c.word_at.result)
    i (c.word_at.result ∷ []) (λ j. refl) (omega arith) s.invariant (omega arith) (ap (λ (v : ℕ). v ∷ []) word)
    (set_put s.picture i c.word_at.result (omega (arith, s.invariant.long)))

pub returns : goal.returns
unfolding words_from
returns c =
    let a = c.args in
    let s = c.loop-i in
    fill_done 0 1 s.i a.n (words a.file.now) a.picture.now s.picture s.invariant (omega arith)
