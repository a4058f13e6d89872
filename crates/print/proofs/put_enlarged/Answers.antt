-- `print::put_enlarged` meets its contract. Assumes nothing.
use mathlib.Core.List.{List}
use mathlib.Core.Path.{◌≡◌, ◌∙◌, ap}
use Prim.Native.Nat.{ℕ, ◌*◌}
use native.Mathlib.Omega.{arith}
use lib.ListN.{length, take}
use Rattle.picture.specs.Picture.{words}
use Rattle.clarity.specs.declared.Clarity.TheVariants.{Standard}
use Rattle.enlarged.specs.Laws.{scale_length}
use Rattle.enlarged.specs.Whole.{scale_of}
use Rattle.text.specs.Text.{picture_text}
use Rattle.text.proofs.Sizes.{scaled, nine}
use Rattle.print.proofs.put_enlarged.Goals as goal

pub put_picture-requires : goal.put_picture-requires
put_picture-requires c =
    let enlarged : take (9 * (c.args.page.w * c.args.page.h)) c.scale.new.output ≡ scale_of Standard c.args.page.w c.args.page.h (words c.args.page.w c.args.picture.now) = (let a = c.args in
    scaled a.page.w a.page.h a.picture.now _ _ _ _ _ _ _ c.requires.w_bound.0 c.requires.w_bound.1 c.requires.w_bound.3 (omega arith) (omega arith) (omega arith) c.scale.ensures) in
    let long : length (take (9 * (c.args.page.w * c.args.page.h)) c.scale.new.output) ≡ (9 * (c.args.page.w * c.args.page.h)) = ap length enlarged ∙ scale_length Standard c.args.page.w c.args.page.h (words c.args.page.w c.args.picture.now) in
    let a = c.args in
    let text : List ℕ → ℕ = λ (s : List ℕ). length (picture_text (3 * a.page.w) (3 * a.page.h) s) in
    rw c.pixels-n.ensures (omega (arith, nine a.page.w a.page.h, long), omega (arith, ap text enlarged))

pub returns : goal.returns
returns c =
    let enlarged : take (9 * (c.args.page.w * c.args.page.h)) c.scale.new.output ≡ scale_of Standard c.args.page.w c.args.page.h (words c.args.page.w c.args.picture.now) = (let a = c.args in
    scaled a.page.w a.page.h a.picture.now _ _ _ _ _ _ _ c.requires.w_bound.0 c.requires.w_bound.1 c.requires.w_bound.3 (omega arith) (omega arith) (omega arith) c.scale.ensures) in
    rw (c.pixels-n.ensures, enlarged) at c.put_picture.ensures
