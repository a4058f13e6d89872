-- `single::root` meets its contract: a NaN has no root, and the patterns below 0x7f80_0000 are those of the values that have a root. Assumes nothing.
use mathlib.Core.Path.{◌≡◌, refl, sym, subst, ◌∙◌}
use native.Mathlib.Omega.{arith}
use mathlib.Core.Bool.{true, false, true≢false}
use lib.Dec.{T, not_T}
use lib.Ieee.{Float, nan, inf, fin, binary32, of_bits, fits, is_nan}
use lib.Ieee.Bits.{is_true, is_false}
use Rattle.single.specs.Root.{rooted, root_answer}
use Rattle.single.proofs.Floats.{rooted_bits, bits_rooted}
use Rattle.single.proofs.root.Goals as goal

no_number : (x : Float) → is_nan x ≡ true → rooted x ≡ false
unfolding is_nan
no_number nan h = refl
no_number (inf s) h = refl
no_number (fin s m e) h = absurd (true≢false (sym h))

pub sqrt-requires : goal.sqrt-requires
sqrt-requires c =
    let held : T (fits binary32 c.args.x) = subst T (sym c.well_formed.0.1) tt in
    let has_root : T (rooted c.args.x) = bits_rooted c.args.x held (omega arith) in
    has_root

pub returns-then-is_nan : goal.returns-then-is_nan
unfolding root_answer of_bits
returns-then-is_nan c = rw (no_number c.args.x (sym c.is_nan.ensures.value ∙ c.if-is_nan.true))

pub returns-then-x-lt2139095040 : goal.returns-then-x-lt2139095040
unfolding root_answer
returns-then-x-lt2139095040 c =
    let held : T (fits binary32 c.args.x) = subst T (sym c.well_formed.0.1) tt in
    let has_root : T (rooted c.args.x) = bits_rooted c.args.x held (omega arith) in
    rw (is_true (rooted c.args.x) has_root, c.sqrt.ensures)

pub returns : goal.returns
unfolding root_answer of_bits
returns c =
    let held : T (fits binary32 c.args.x) = subst T (sym c.well_formed.0.1) tt in
    rw (is_false (rooted c.args.x) (not_T (rooted c.args.x) (λ p. omega (arith, rooted_bits c.args.x held p))))
