-- `text::Text::put_digits` meets its contract. Assumes nothing.
use mathlib.Core.Path.{refl}
use Prim.Native.Nat.{◌-◌}
use native.Mathlib.Omega.{arith}
use lib.ListN.{length-set}
use Rattle.text.proofs.Texts.{spell_none, spell_more, spell_done}
use Rattle.text.proofs.Text.put_digits.Goals as goal

pub loop-i-init : goal.loop-i-init
loop-i-init c =
    let a = c.args in
    record { same = refl; long = refl; place = refl; spelled = spell_none a.base a.k a.n a.self.now.at a.self.now.bytes.now (omega arith) }

pub loop-i-preserved : goal.loop-i-preserved
loop-i-preserved c =
    let a = c.args in
    let s = c.loop-i in
    record {
      same = s.invariant.same;
      long = simp length-set s.invariant.long;
      place = s.invariant.place;
      spelled =
          rw (c.digit.ensures, s.invariant.place)
          (spell_more a.base a.k a.n a.self.now.at s.i (s.i - 1) s.rest a.self.now.bytes.now s.self.bytes.now (omega arith) (omega arith) s.invariant.spelled);
    }

pub returns-clause-written : goal.returns-clause-written
returns-clause-written c =
    let a = c.args in
    let s = c.loop-i in
    spell_done a.base a.k a.n a.self.now.at s.i s.rest _ a.self.now.bytes.now s.self.bytes.now (omega arith) (omega (arith, s.invariant.place)) s.invariant.spelled
