-- `metric::root_distance` meets its contract: the sum is one that has a root. Assumes nothing.
use mathlib.Core.Path.{◌≡◌, sym, subst}
use Prim.Native.Nat.{ℕ}
use lib.Dec.{T}
use lib.Ieee.{Float, of_bits}
use Rattle.single.specs.Single.{f0, max_of}
use Rattle.single.specs.Root.{rooted}
use Rattle.channels.specs.Channels.{red_of, green_of, blue_of}
use Rattle.metric.specs.Distance.{norm, weighted_of, distance_of}
use Rattle.metric.proofs.Distances.{under, under_in}
use Rattle.metric.proofs.root_distance.Goals as goal

joined : (p q : ℕ) (pr pg pb qr qg qb m : Float)
    → (pr ≡ norm (red_of p)) × (pg ≡ norm (green_of p)) × (pb ≡ norm (blue_of p))
    → (qr ≡ norm (red_of q)) × (qg ≡ norm (green_of q)) × (qb ≡ norm (blue_of q))
    → m ≡ max_of (weighted_of pr pg pb qr qg qb) f0 → m ≡ under p q
joined p q pr pg pb qr qg qb m e f g = cc

module _ (c : goal.After-max) where
  rooted_is : c.max.result ≡ under c.args.p c.args.q
  unfolding weighted_of of_bits
  rooted_is = joined c.args.p c.args.q _ _ _ _ _ _ c.max.result c.unpack_norm-a.ensures c.unpack_norm-b.ensures c.max.ensures

pub sqrt-requires : goal.sqrt-requires
sqrt-requires c = subst (λ (x : Float). T (rooted x)) (sym (rooted_is c)) (under_in c.args.p c.args.q).is

pub returns : goal.returns
unfolding distance_of of_bits weighted_of
returns c =
    let rooted_is : c.max.result ≡ under c.args.p c.args.q = joined c.args.p c.args.q _ _ _ _ _ _ c.max.result c.unpack_norm-a.ensures c.unpack_norm-b.ensures c.max.ensures in
    rw (c.sqrt.ensures, rooted_is)
