-- What `Claims.antt` says of the root; `Laws.antt` and `Floats.antt` have the proofs. Assumes nothing.
use Rattle.single.specs.Claims.{RootLaws}
use Rattle.single.proofs.Laws as Laws
use Rattle.single.proofs.Floats.{size_is, sqrt_fits, sqrt_rooted, nearest, sqrt_mono, sqrt_zero, sqrt_zero_only, sqrt_nine, sqrt_2⁻¹⁶}

pub root_laws : RootLaws
root_laws = record {
  units = λ x f p. record { held = f; value = size_is x f p };
  is_root = record {
    held = λ x f p. sqrt_fits x;
    unsigned = sqrt_rooted;
    lower = λ x y X R Y u v w l. (nearest x y X R Y u.held w.held u.value v.value w.value).0 l;
    higher = λ x y X R Y u v w l. (nearest x y X R Y u.held w.held u.value v.value w.value).1 l;
    mono = sqrt_mono;
    zero = sqrt_zero;
    zero_only = sqrt_zero_only;
    nine = sqrt_nine;
    2⁻¹⁶ = sqrt_2⁻¹⁶;
  };
  no_tie = Laws.no_tie;
}
