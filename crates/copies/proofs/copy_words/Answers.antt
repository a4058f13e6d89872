-- `copies::copy_words` meets its contract: the invariant says that the first i words stand, three times each. Assumes nothing.
use native.Mathlib.Omega.{arith}
use mathlib.Core.Path.{refl}
use Prim.Native.Nat.{◌+◌, ◌*◌}
use Rattle.picture.specs.Fill.{fill_none, fill_more}
use Rattle.copies.proofs.Runs.{copies}
use Rattle.copies.proofs.Parts.{three_filled}
use lib.ListN.{get_or}
use Rattle.copies.proofs.copy_words.Goals as goal

pub loop-i-init : goal.loop-i-init
loop-i-init c = fill_none 0 3 (copies c.args.words.now) c.args.out.now (omega arith)

pub loop-i-preserved : goal.loop-i-preserved
loop-i-preserved c =
    let s = c.loop-i in
    let a = c.args in
    fill_more 0 3 s.i (copies a.words.now) a.out.now s.out _ (3 * s.i) _ (λ j. refl) (omega arith) s.invariant (omega arith) refl
    (three_filled (3 * s.i) (3 * s.i + 3) (get_or a.words.now s.i 0) _ s.out refl (omega arith) (c.fill.ensures.after (λ y h. h)))
