-- `palette::replace` meets its contract: the first i words stand replaced. Assumes nothing.
use mathlib.Core.Path.{refl, ap, ◌∙◌}
use mathlib.Core.List.{List}
use Prim.Native.Nat.{ℕ}
use native.Mathlib.Omega.{arith}
use lib.ListN.{get_or}
use Rattle.std.proofs.Common.{Bor}
use Rattle.palette.specs.Palette.{nearest_of}
use Rattle.palette.proofs.Fills.{replaced_none, replaced_more}
use Rattle.palette.proofs.replace.Goals as goal

pub loop-i-init : goal.loop-i-init
loop-i-init c = (refl, replaced_none _ _ _)

pub loop-i-preserved : goal.loop-i-preserved
loop-i-preserved c =
    let a = c.args in
    let s = c.loop-i.invariant in
    let word = c.entry_of.ensures.0 ∙ ap (λ (p : List ℕ). nearest_of p (get_or a.picture.now c.loop-i.i 0)) s.0 in
    (ap (λ (p : Bor (List ℕ)). p.now) c.entry_of.ensures.1 ∙ s.0, replaced_more _ _ _ _ _ _ (omega arith) (omega arith) word s.1)
