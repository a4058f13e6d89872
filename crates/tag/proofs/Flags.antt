-- The flags of a word of junction numbers. Assumes nothing.
use mathlib.Core.Path.{◌≡◌, refl, ◌∙◌, ap}
use Prim.Native.Nat.{ℕ, ◌/◌}
use native.Mathlib.Omega.{arith}
use lib.Bits.{bit_and, and_block, and_mod, and_mask, and_high}
use Rattle.lanes.specs.Lanes.{lanes, ones}
use Rattle.lanes.proofs.Laws.{num, num_odd, ones_lanes, bytewise, flags}
use Rattle.tag.specs.Tag.{active, horizontal, vertical, orientation}

module _ (a b c d : ℕ) where
  pub actives : bit_and (lanes a b c d) ones ≡ lanes (num (active a)) (num (active b)) (num (active c)) (num (active d))
  actives =
      ap (λ (m : ℕ). bit_and (lanes a b c d) m) ones_lanes
      ∙ bytewise bit_and and_block and_mod a b c d 1 1 1 1
      ∙ rw (and_mask a 1, and_mask b 1, and_mask c 1, and_mask d 1, num_odd a, num_odd b, num_odd c, num_odd d)

  pub horizontals : bit_and (lanes a b c d / 2) ones ≡ lanes (num (horizontal a)) (num (horizontal b)) (num (horizontal c)) (num (horizontal d))
  unfolding lanes
  horizontals = flags 1 0x02020202 refl refl (λ n. and_high n 1 1) (omega arith) a b c d

  pub verticals : bit_and (lanes a b c d / 4) ones ≡ lanes (num (vertical a)) (num (vertical b)) (num (vertical c)) (num (vertical d))
  unfolding lanes
  verticals = flags 2 0x04040404 refl refl (λ n. and_high n 1 2) (omega arith) a b c d

  pub orientations : bit_and (lanes a b c d / 8) ones ≡ lanes (num (orientation a)) (num (orientation b)) (num (orientation c)) (num (orientation d))
  unfolding lanes
  orientations = flags 3 0x08080808 refl refl (λ n. and_high n 1 3) (omega arith) a b c d
