-- What section 5 says of tag numbers, for all flags around a pixel: c and m are 0 to 8, the number gives both back, and
-- `unpack_corner_tag` and `unpack_mid_tag` of the source find them in its single (c + 9m) / 80. Definitions only;
-- `proofs/Unpack.antt` proves it.
use Rattle.std.specs.Prelude.{◌≡◌, false, ℕ, ◌/◌, ◌%◌, ◌≤◌, pos, negsuc, Float}
use Rattle.std.specs.Float.{fin, binary32}
use Rattle.std.specs.Float.Ieee.{add, mul, div, to_unsigned}
use Rattle.tag.specs.Tag.{JunctionFlags, corner_tag, mid_tag, trace_flags}

-- a tag number gives back its corner tag and its mid-edge tag
pub record Packed (t c m : ℕ) : Type 0 where
  pub corner : t % 9 ≡ c
  pub mid : t / 9 % 9 ≡ m
  pub range : t ≤ 80

-- n as a single
abbrev whole : ℕ → Float
whole n = fin false n (pos 0)

abbrev half : Float
half = fin false 1 (negsuc 0)

-- (ct + 9.0 * mt) / 80.0
unfoldable pub packed_tag : ℕ → ℕ → Float
packed_tag c m = div binary32 (add binary32 (whole c) (mul binary32 (whole 9) (whole m))) (whole 80)

-- (v * 80.0 + 0.5).floor() as i32 % 9
unfoldable pub unpack_corner_tag : Float → ℕ
unpack_corner_tag v = to_unsigned 31 (add binary32 (mul binary32 v (whole 80)) half) % 9

-- (v * 80.0 / 9.0 + 0.5 / 9.0).floor() as i32 % 9
unfoldable pub unpack_mid_tag : Float → ℕ
unpack_mid_tag v =
    to_unsigned 31 (add binary32 (div binary32 (mul binary32 v (whole 80)) (whole 9)) (div binary32 half (whole 9))) % 9

pub record TagLaws : Type 0 where
  pub traced : (e dl dl2 dl3 dr dr2 dr3 du du2 du3 dd dd2 dd3 : JunctionFlags)
      → let t = trace_flags e dl dl2 dl3 dr dr2 dr3 du du2 du3 dd dd2 dd3 in
      let c = corner_tag e dl dl2 dl3 dr dr2 dr3 du du2 du3 dd dd2 dd3 in
      let m = mid_tag e dl dl2 dl3 dr dr2 dr3 du du2 du3 dd dd2 dd3 in
      Packed t.t0 (c 0) (m 0) × Packed t.t1 (c 1) (m 1) × Packed t.t2 (c 2) (m 2) × Packed t.t3 (c 3) (m 3)
  pub unpacked : (c m : ℕ) → c ≤ 8 → m ≤ 8 → (unpack_corner_tag (packed_tag c m) ≡ c) × (unpack_mid_tag (packed_tag c m) ≡ m)
