-- The four corners of a pixel in one word, corner i in byte i, and how the code moves and chooses bytes. Definitions only.
use Rattle.std.specs.Prelude.{ℕ, ◌+◌, ◌*◌, ◌-◌, ◌/◌, ◌%◌}
use Rattle.std.specs.Int.Bits.{bit_and, bit_or}
use Rattle.junction.specs.declared.Junctions.{Junctions}

-- the word with the bytes a, b, c, d, the lowest first
unfoldable pub lanes : ℕ → ℕ → ℕ → ℕ → ℕ
lanes a b c d = ((d % 256 * 256 + c % 256) * 256 + b % 256) * 256 + a % 256

-- the junction numbers of a pixel
abbrev pub word_of : Junctions → ℕ
word_of j = lanes j.n0 j.n1 j.n2 j.n3

-- 1 in each byte
abbrev pub ones : ℕ
ones = 0x01010101

-- the corners 1 0 3 2: across the pixel
unfoldable pub across : ℕ → ℕ
across x = bit_or (bit_and (x / 256) 0x00ff00ff) (bit_and x 0x00ff00ff * 256)

-- the corners 3 2 1 0: down the pixel
unfoldable pub down : ℕ → ℕ
down x = x / 16777216 + x / 65536 % 256 * 256 + x / 256 % 256 * 65536 + x % 256 * 16777216

-- the corners 2 3 0 1: the opposite ones
unfoldable pub opposite : ℕ → ℕ
opposite x = x / 65536 + x % 65536 * 65536

-- the left corners, 0 and 3, of l, and the right ones of r
unfoldable pub beside : ℕ → ℕ → ℕ
beside l r = l % 256 + r / 256 % 65536 * 256 + l / 16777216 * 16777216

-- the top corners, 0 and 1, of u, and the bottom ones of d
unfoldable pub above : ℕ → ℕ → ℕ
above u d = u % 65536 + d / 65536 * 65536

-- for each side of the pixel, top, right, bottom, left: its corner of the same number, h along the top and the bottom, v along the others
unfoldable pub own : ℕ → ℕ → ℕ
own h v = h % 256 + v / 256 % 256 * 256 + h / 65536 % 256 * 65536 + v / 16777216 * 16777216

-- its other corner, the next one around the pixel
unfoldable pub after : ℕ → ℕ → ℕ
after h v = let x = own v h in x / 256 + x % 256 * 16777216

-- in each byte a where the flag is 1, b where it is 0
unfoldable pub choose : ℕ → ℕ → ℕ → ℕ
choose flags a b =
    let m = bit_and flags ones * 255 in
    bit_or (bit_and a m) (bit_and b (0xffffffff - m))
