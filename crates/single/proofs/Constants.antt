-- What the constants of the code are, by their patterns. Assumes nothing.
use mathlib.Core.Path.{◌≡◌, refl}
use lib.Ieee.{binary32, of_bits}
use Rattle.single.specs.Single.{f0, f½, f1, f2}

pub zero_is : of_bits binary32 0 ≡ f0
unfolding of_bits
zero_is = refl

pub half_is : of_bits binary32 0x3f00_0000 ≡ f½
unfolding of_bits
half_is = refl

pub one_is : of_bits binary32 0x3f80_0000 ≡ f1
unfolding of_bits
one_is = refl

pub two_is : of_bits binary32 0x4000_0000 ≡ f2
unfolding of_bits
two_is = refl
