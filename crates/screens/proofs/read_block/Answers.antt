-- `screens::read_block` meets its contract. The first k words are the block's. Assumes nothing.
use mathlib.Core.Path.{ap, ◌∙◌}
use mathlib.Core.List.{List}
use Prim.Native.Nat.{ℕ, ◌<◌}
use native.Mathlib.Omega.{arith}
use lib.ListN.{get_or, set, length-set}
use Rattle.machine.specs.Screen.{block_words}
use Rattle.machine.proofs.Places.{spot}
use Rattle.screens.specs.Screens.{screen_of}
use Rattle.screens.proofs.Blocks.{within, fill_more}
use Rattle.screens.proofs.read_block.Goals as goal

-- where word k lies, in a turn of the loop
pub bounds-output-top : goal.bounds-output-top
bounds-output-top c =
    let a = c.args in
    let s = c.across-s in
    let k = c.loop-k.k in
    let l : k < block_words (screen_of a.scale) = omega arith in
    omega (arith, within a.scale s.result s.ensures a.w a.h a.bx a.by k (omega arith) (omega arith) (omega arith) (omega arith) l)

pub loop-k-preserved : goal.loop-k-preserved
loop-k-preserved c =
    let a = c.args in
    let s = c.across-s.result in
    let l = c.loop-k in
    let f : ℕ → ℕ = λ j. get_or a.output.now (spot s a.w a.bx a.by j) 0 in (
      omega arith,
      (
        length-set l.words l.k (f l.k) ∙ l.invariant.1.0,
        ap (λ (o : List ℕ). set o l.k (f l.k)) l.invariant.1.1 ∙ fill_more l.k f a.words.now (omega arith),
      ),
    )
