-- How near two colours are: the whole number N of request 8. Definitions only.
use Rattle.std.specs.Prelude.{ℕ, ◌+◌, ◌-◌, ◌*◌}
use Rattle.channels.specs.Channels.{red_of, green_of, blue_of}

-- the difference of two channels without its sign: one of the two parts is 0. Only its square is used
unfoldable pub gap : ℕ → ℕ → ℕ
gap a b = a - b + (b - a)

abbrev pub squared : ℕ → ℕ
squared n = n * n

-- R, G, B are one colour's channels and R', G', B' the other's; no channel is above 255, so 1530 is never exceeded
unfoldable pub N : (R G B R' G' B' : ℕ) → ℕ
N R G B R' G' B' = (1020 + R + R') * squared (gap R R') + 2040 * squared (gap G G') + (1530 - R - R') * squared (gap B B')

-- N of two words; their top bytes are not looked at
unfoldable pub nearness_of : ℕ → ℕ → ℕ
nearness_of p q = N (red_of p) (green_of p) (blue_of p) (red_of q) (green_of q) (blue_of q)
