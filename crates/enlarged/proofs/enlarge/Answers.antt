-- `enlarged::enlarge` meets its contract: `Passes` says what the passes and the blocks leave. Assumes nothing.
use mathlib.Core.Path.{sym, ◌∙◌, ap}
use mathlib.Core.List.{List}
use Prim.Native.Nat.{ℕ, ◌+◌, ◌*◌}
use lib.ListN.{drop}
use Rattle.std.proofs.Math.Nat.{zero-add}
use Rattle.std.proofs.lemmas.List.{take_rest}
use Rattle.picture.specs.Picture.{words}
use Rattle.grid.specs.Grid.{tags_at}
use Rattle.block.specs.Block.{block_from}
use Rattle.block.specs.Store.{put_rect}
use Rattle.enlarged.specs.Passes.{enlarged}
use Rattle.enlarged.proofs.enlarge.Goals as goal

pub returns : goal.returns
returns c =
    let a = c.args in
    let p = a.picture in
    let r = c.requires in
    let cut = p.h * (p.w * 4) in
    let blocks : List ℕ → (ℕ → ℕ) → ℕ → ℕ → List ℕ =
    λ tags at i j. block_from p.w p.h (words p.w p.words.now) (0 + i) (0 + j) (tags_at tags (at (j * (p.w * 4)) + i * 4)) in
    enlarged a.clarity p.w p.h p.words.now _ _ _ _ _ _
    (record { wide = r.wide; high = r.high; picture = p.whole; output = r.output; singles = r.singles; bytes = r.bytes }) c.passes.ensures
    (c.put_rect.ensures
    ∙ ap (λ (tags : List ℕ). put_rect (3 * p.w) 0 p.w p.h (blocks tags (λ n. n)) a.output.now) (take_rest c.passes.new.bytes cut)
    ∙ λ s. put_rect (3 * p.w) 0 p.w p.h (blocks (drop cut c.passes.new.bytes) (λ n. sym (zero-add n) s)) a.output.now)
