-- A window of a picture: what it is to reach round a place as far as is read, or to end where the picture does. Definitions only.
use Rattle.std.specs.Prelude.{ℕ, ◌+◌, ◌-◌, ◌≤◌, min}

-- of an axis of n places, the m places from o on reach at least l below and r above b, or end where the axis does
pub record Span (n o m b l r : ℕ) : Type 0 where
  pub inside : o + m ≤ n
  pub low : o ≤ b - l
  pub high : min (b + r + 1) n ≤ o + m
