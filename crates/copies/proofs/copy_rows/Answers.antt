-- `copies::copy_rows` meets its contract: each row is put in its place. Assumes nothing.
use native.Mathlib.Omega.{arith}
use mathlib.Core.Path.{◌≡◌, ◌∙◌, ap}
use Prim.Native.Nat.{ℕ, ◌+◌, ◌*◌}
use lib.ListN.{length, get_or}
use Rattle.picture.specs.Fill.{put}
use Rattle.block.specs.Copies.{thrice}
use Rattle.copies.proofs.Parts.{part_put}
use Rattle.copies.proofs.copy_rows.Goals as goal

pub returns : goal.returns
returns c =
    let a = c.args in
    let s = thrice (length a.words.now) (λ j. get_or a.words.now j 0) in
    let first : a.ow ≡ 0 + a.ow = omega arith in
    let second : 2 * a.ow ≡ 0 + 2 * a.ow = omega arith in
    part_put (2 * a.ow) s _ c.copy_row-3.new.out c.copy_row-3.ensures
    ∙ ap (put (2 * a.ow) s) (part_put a.ow s c.copy_row.new.out c.copy_row-2.new.out c.copy_row-2.ensures ∙ ap (put a.ow s) c.copy_row.ensures)
    ∙ ap (λ (n : ℕ). put n s (put a.ow s (put 0 s a.out.now))) second
    ∙ ap (λ (n : ℕ). put (0 + 2 * a.ow) s (put n s (put 0 s a.out.now))) first
