-- What `specs/Claims.antt` says of N. Assumes nothing.
use Prim.Native.Nat.{◌/◌, ◌^◌}
use Rattle.channels.specs.Channels.{red_of, green_of, blue_of}
use Rattle.channels.proofs.Channels.{byte}
use Rattle.colour.specs.Nearness.{nearness_of}
use Rattle.colour.specs.Claims.{NearnessLaws}
use Rattle.colour.proofs.Laws.{nearness_small, nearness_largest, nearness_symmetric, nearness_zero}
use Rattle.colour.proofs.Signed.{N_signed}

pub nearness_laws : NearnessLaws
unfolding nearness_of
nearness_laws = record {
  signed = λ p q. N_signed (red_of p) (green_of p) (blue_of p) (red_of q) (green_of q) (blue_of q) (byte (p / 2 ^ 16)) (byte (q / 2 ^ 16));
  at_most = nearness_small;
  reached = nearness_largest;
  symmetric = nearness_symmetric;
  zero_where = nearness_zero;
}
