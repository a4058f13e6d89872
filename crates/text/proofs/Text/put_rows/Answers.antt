-- `text::Text::put_rows` meets its contract. Assumes nothing.
use mathlib.Core.List.{List}
use mathlib.Core.Path.{◌≡◌, refl, ap, ◌∙◌}
use Prim.Native.Nat.{ℕ, ◌+◌, ◌-◌, ◌*◌, ◌≤◌}
use native.Mathlib.Omega.{arith}
use lib.ListN.{length, take, drop}
use Rattle.picture.specs.Fill.{flat, chunk}
use Rattle.text.specs.Text.{spaced, line, row, rows}
use Rattle.text.proofs.Texts.{writes_none, writes_flat, flat_room, row_at}
use Rattle.text.proofs.Text.put_rows.Invariants.{lines}
use Rattle.text.proofs.Text.put_rows.Goals as goal

pub loop-y-init : goal.loop-y-init
loop-y-init c =
    let a = c.args in
    record { same = refl; long = refl; written = writes_none a.self.now.at a.self.now.bytes.now (omega arith) }

pub overflow_mul-from : goal.overflow_mul-from
overflow_mul-from c = record { fits = omega (arith, chunk c.loop-y.y c.args.h c.args.w (omega arith)) }

pub put_row-requires : goal.put_row-requires
unfolding rows
put_row-requires c =
    let y = c.loop-y.y in
    let a = c.args in
    let the_row : take (y * a.w + a.w - y * a.w) (drop (y * a.w) a.words.now) ≡ row a.w a.words.now y = row_at a.w y (y * a.w) a.words.now refl in
    let room : a.self.now.at + length (flat a.h (lines a.w a.words.now)) ≤ length a.self.now.bytes.now = c.requires.1 in
    omega (
      arith,
      c.loop-y.invariant.written.next_is,
      ap (λ (s : List ℕ). length (line (spaced s))) the_row,
      chunk y a.h a.w (omega arith),
      flat_room (lines a.w a.words.now) y a.h (omega arith),
      room,
    )

pub loop-y-preserved : goal.loop-y-preserved
unfolding rows
loop-y-preserved c =
    let s = c.loop-y in
    let y = s.y in
    let a = c.args in
    let the_row : take (y * a.w + a.w - y * a.w) (drop (y * a.w) a.words.now) ≡ row a.w a.words.now y = row_at a.w y (y * a.w) a.words.now refl in
    let room : a.self.now.at + length (flat a.h (lines a.w a.words.now)) ≤ length a.self.now.bytes.now = c.requires.1 in
    let p = c.put_row in
    record {
      same = p.ensures.same ∙ s.invariant.same;
      long = p.ensures.long ∙ s.invariant.long;
      written =
          writes_flat a.self.now.at (lines a.w a.words.now) y a.h a.self.now.bytes.now s.self.bytes.now p.new.self.bytes.now s.self.at p.new.self.at
          (omega arith) room s.invariant.written (rw the_row at p.ensures.written);
    }

pub returns-clause-written : goal.returns-clause-written
unfolding rows
returns-clause-written c =
    let e : c.loop-y.y ≡ c.args.h = omega arith in
    rw e at c.loop-y.invariant.written
