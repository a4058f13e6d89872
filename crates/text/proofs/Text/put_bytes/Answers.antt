-- `text::Text::put_bytes` meets its contract. Assumes nothing.
use mathlib.Core.Path.{◌≡◌, refl, ◌∙◌, ap}
use Prim.Native.Nat.{ℕ, ◌+◌, ◌-◌}
use native.Mathlib.Omega.{arith}
use borrow.Rule.Slice.PartMut.{put_mid}
use mathlib.Core.List.{List, ◌++◌}
use lib.ListN.{length, take}
use lib.Seq.{drop-drop}
use Rattle.picture.specs.Fill.{put}
use Rattle.text.proofs.Text.put_bytes.Goals as goal

pub returns-clause-written : goal.returns-clause-written
unfolding put
returns-clause-written c =
    let a = c.args in
    let n : a.self.now.at + length a.bytes.now - a.self.now.at ≡ length a.bytes.now = omega arith in
    record {
      next_is = refl;
      text_is =
          ap (put_mid a.self.now.at (a.self.now.at + length a.bytes.now - a.self.now.at) a.self.now.bytes.now) c.copy_from_slice.ensures.after
          ∙ ap (λ (k : ℕ). put_mid a.self.now.at k a.self.now.bytes.now a.bytes.now) n
          ∙ ap (λ (l : List ℕ). take a.self.now.at a.self.now.bytes.now ++ (a.bytes.now ++ l)) (drop-drop (length a.bytes.now) a.self.now.at a.self.now.bytes.now);
    }
