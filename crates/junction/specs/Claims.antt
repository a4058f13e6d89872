-- What section 4 says of the junction numbers of a pixel: each is below 16, with horizontal and vertical never together and neither where
-- the edges are equal (`numbers`); `decode_flags` finds the number's bits in the source's single (`recovered`); and one pixel by
-- computation (`lone`). Definitions only; `proofs/Laws.antt` proves it.
use Rattle.std.specs.Prelude.{◌≡◌, false, ℕ, ◌+◌, ◌/◌, ◌%◌, ◌<◌, ◌≤◌, pos, negsuc, T, Float}
use Rattle.std.specs.Int.Bits.{bit_and}
use Rattle.std.specs.Float.{fin}
use Rattle.std.specs.Float.Ieee.{eq, to_unsigned}
use Rattle.metric.specs.declared.Metric.{Metric}
use Rattle.metric.specs.declared.Weights.{Weights}
use Rattle.single.specs.Single.{f0, f½, f1, ◌⊕◌, ◌⊗◌, ◌⊘◌, min_of}
use Rattle.junction.specs.Junction.{active_of, packed_of, number, arbitrate_junctions}

-- a junction number n at a corner whose h_edge and v_edge are h and v
pub record Number (h v : Float) (n : ℕ) : Type 0 where
  pub small : n < 16
  pub not_both : n / 2 % 2 + n / 4 % 2 ≤ 1
  pub neither : T (eq h v) → n / 2 % 2 + n / 4 % 2 ≡ 0

-- `decode_flags`: (v * scale + offset).floor() as i32 & 1. Nothing here is negative, so the cast drops what `floor` drops
unfoldable pub decoded : Float → Float → Float → ℕ
decoded v scale offset = bit_and (to_unsigned 31 (v ⊗ scale ⊕ offset)) 1

abbrev pub f15 : Float
f15 = fin false 15 (pos 0)

-- the source's packed[i] is s / 15.0, decoded with 15.0, 0.5; 7.5, 0.25; 3.75, 0.125; 1.875, 0.0625
pub record Recovered (s : Float) : Type 0 where
  pub corner : decoded (s ⊘ f15) f15 f½ ≡ number s % 2
  pub horiz : decoded (s ⊘ f15) (fin false 15 (negsuc 0)) (fin false 1 (negsuc 1)) ≡ number s / 2 % 2
  pub vert : decoded (s ⊘ f15) (fin false 15 (negsuc 1)) (fin false 1 (negsuc 2)) ≡ number s / 4 % 2
  pub orient : decoded (s ⊘ f15) (fin false 15 (negsuc 2)) (fin false 1 (negsuc 3)) ≡ number s / 8 % 2

-- no distances, and no weights
abbrev pub z : Metric
z = record { tl = f0; t = f0; tr = f0; r = f0 }

abbrev pub o : Weights
o = record { w0 = f0; w1 = f0; w2 = f0; w3 = f0 }

-- near above and far to the right
abbrev pub far : Metric
far = record { tl = f0; t = f0; tr = f½; r = f1 }

-- what is claimed, for all metrics and weights around a pixel
pub record JunctionLaws : Type 0 where
  pub numbers : (mtl mt ml mc mr mbl mb mbr : Metric) (stl st str sl sc sr sbl sb sbr : Weights)
      → let q = arbitrate_junctions mtl mt ml mc mr mbl mb mbr stl st str sl sc sr sbl sb sbr in
      Number (min_of ml.r mtl.r) (min_of mc.t ml.t) q.n0
      × Number (min_of mc.r mt.r) (min_of mc.t mr.t) q.n1
      × Number (min_of mc.r mb.r) (min_of mb.t mbr.t) q.n2
      × Number (min_of ml.r mbl.r) (min_of mb.t mbl.t) q.n3
  pub recovered : (mtl mt ml mc mr mbl mb mbr : Metric) (stl st str sl sc sr sbl sb sbr : Weights)
      → let p = packed_of mtl mt ml mc mr mbl mb mbr (active_of stl st str sl sc sr sbl sb sbr) in
      Recovered (p 0) × Recovered (p 1) × Recovered (p 2) × Recovered (p 3)
  -- one corner of weight 1 among zeros, and a far neighbour to the right
  pub lone : arbitrate_junctions z z z far z z z z o o o o (record { w0 = f1; w1 = f0; w2 = f0; w3 = f0 }) o o o o
      ≡ record { n0 = 1; n1 = 8; n2 = 8; n3 = 0 }
