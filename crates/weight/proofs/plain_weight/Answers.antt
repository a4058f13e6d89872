-- `weight::plain_weight` meets its contract: `Zeros.antt` has the weight at each setting. Assumes nothing.
use mathlib.Core.Path.{◌≡◌, ap}
use mathlib.Core.Logic.{inl, inr}
use mathlib.Core.Bool.{Bool, true, false, cond, ◌&&◌}
use lib.Dec.{T}
use lib.Ieee.{Float, of_bits, eq}
use lib.Ieee.Fits.{and_l, and_r}
use lib.Ieee.Bits.{is_true}
use Rattle.single.specs.Single.{f0, ◌⊗◌}
use Rattle.clarity.specs.declared.Clarity.{Clarity}
use Rattle.clarity.specs.declared.Clarity.TheVariants.{Standard, Threshold, Gated}
use Rattle.clarity.specs.Clarity.{lawful_of}
use Rattle.weight.specs.Weight.{corner_weight_of}
use Rattle.weight.proofs.Zeros.{zero_standard, zero_threshold, zero_gated}
use Rattle.weight.proofs.plain_weight.Goals as goal

abbrev gated : Clarity → Bool
gated Standard = false
gated (Threshold t) = false
gated (Gated t) = true

module _ (e p r s0 s1 : Float) (h : eq e f0 ≡ true) where
  at_setting : (q : Clarity) → T (lawful_of q) → eq p f0 ≡ true → eq r f0 ≡ true → cond (gated q) f0 (p ⊗ r) ≡ corner_weight_of q e p r s0 s1
  at_setting Standard l i j = zero_standard e p r s0 s1 h i j
  at_setting (Threshold t) l i j = zero_threshold e p r s0 s1 h i j t l
  at_setting (Gated t) l i j = zero_gated e p r s0 s1 h i j t

  by_setting : (q : Clarity) → T (lawful_of q && eq p f0 && eq r f0) → cond (gated q) f0 (p ⊗ r) ≡ corner_weight_of q e p r s0 s1
  by_setting q t =
      let l = and_l (lawful_of q && eq p f0) (eq r f0) t in
      at_setting q (and_l (lawful_of q) (eq p f0) l) (is_true (eq p f0) (and_r (lawful_of q) (eq p f0) l))
      (is_true (eq r f0) (and_r (lawful_of q && eq p f0) (eq r f0) t))

pub returns-in-Standard : goal.returns-in-Standard
returns-in-Standard c =
    let a = c.args in
    let no_gate : gated a.clarity ≡ false = elim c.in-Standard.is [ inl i ↦ ap gated i | inr i ↦ ap gated i.1 ] in
    λ e s0 s1 h. rw no_gate at (by_setting e a.p a.q s0 s1 h a.clarity c.requires)

pub returns-in-Gated : goal.returns-in-Gated
unfolding of_bits
returns-in-Gated c =
    let a = c.args in
    λ e s0 s1 h. rw (ap gated c.in-Gated.is) at (by_setting e a.p a.q s0 s1 h a.clarity c.requires)
