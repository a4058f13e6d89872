-- `painted::store::store_items` meets its contract. Assumes nothing.
use Rattle.painted.proofs.Turns.{turn_word}
use Rattle.screens.specs.Screens.{screen_of}
use Rattle.painted.proofs.store.store_items.Goals as goal

pub store_word-requires : goal.store_word-requires
store_word-requires c =
    let a = c.args in
    let l = c.loop-item in
    turn_word (screen_of a.scale) a.header a.items.now l.item-index c.loop-item-test.true l.picture l.marks _ _ l.invariant.1.1
