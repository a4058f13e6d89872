-- The claim on the settings holds. Assumes nothing.
use mathlib.Core.Path.{◌≡◌, refl, sym, ap}
use mathlib.Core.Logic.{inl, inr}
use Prim.Native.Nat.{◌<◌}
use native.Mathlib.Omega.{arith}
use Rattle.clarity.specs.declared.Clarity.{Clarity}
use Rattle.clarity.specs.declared.Clarity.TheVariants.{Standard, Threshold, Gated}
use Rattle.clarity.specs.Clarity.{threshold_of, plainly, kind_of}
use Rattle.clarity.specs.Claims.{Equal, Settings}
use Rattle.clarity.proofs.Numbers.{numbers_lawful, standard_numbers}

-- settings of two kinds do not count as equal, unless one is the standard
unlike : (c d : Clarity) → kind_of (plainly c) < kind_of (plainly d) → plainly c ≡ plainly d → ⊥
unlike c d l e = omega (arith, l, ap kind_of e)

others : (c d : Clarity) → plainly c ≡ plainly d → Equal c d
others Standard Standard e = inl refl
others Standard (Threshold t) e = inr (inl (refl, ap Threshold (sym (ap threshold_of e))))
others Standard (Gated t) e = absurd (unlike Standard (Gated t) (omega arith) e)
others (Threshold t) Standard e = inr (inr (refl, ap Threshold (ap threshold_of e)))
others (Threshold t) (Threshold u) e = inl (ap Threshold (ap threshold_of e))
others (Threshold t) (Gated u) e = absurd (unlike (Threshold t) (Gated u) (omega arith) e)
others (Gated t) Standard e = absurd (unlike Standard (Gated t) (omega arith) (sym e))
others (Gated t) (Threshold u) e = absurd (unlike (Threshold u) (Gated t) (omega arith) (sym e))
others (Gated t) (Gated u) e = inl (ap Gated (ap threshold_of e))

pub settings : Settings
settings = record { standard_half = refl; others = others; numbers_lawful = numbers_lawful; standard_numbers = standard_numbers }
