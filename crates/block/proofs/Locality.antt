-- A window that reaches as far as a block reads has the same block. Assumes nothing.
use Rattle.std.specs.Prelude.{◌≡◌, ℕ, ◌+◌, ◌-◌, ◌<◌}
use Rattle.std.proofs.Common.{sym, arith}
use Rattle.picture.specs.Local.{narrower}
use Rattle.picture.specs.Span.{Span}
use Rattle.picture.proofs.Windows.{windowed}
use Rattle.clarity.specs.declared.Clarity.{Clarity}
use Rattle.block.specs.Block.{block_of}
use Rattle.block.proofs.Cross.{matched}

-- a window of cols by rows pixels from (x0, y0) on that reaches six columns to each side of (bx, by), six rows up and five down, or ends
-- where the picture does, has the picture's block there
pub in_window : (q : Clarity) (w h : ℕ) (f : ℕ → ℕ → ℕ) (x0 y0 cols rows : ℕ) (g : ℕ → ℕ → ℕ) (bx by : ℕ) → bx < w → by < h
    → Span w x0 cols bx 6 6 → Span h y0 rows by 6 5 → ((x y : ℕ) → x < cols → y < rows → g x y ≡ f (x0 + x) (y0 + y))
    → block_of q cols rows g (bx - x0) (by - y0) ≡ block_of q w h f bx by
in_window q w h f x0 y0 cols rows g bx by hx hy sx sy e =
    let m = windowed sx sy e in
    sym (matched q hx hy (narrower (omega arith) (omega arith) (omega arith) (omega arith) m)
    (narrower (omega arith) (omega arith) (omega arith) (omega arith) m))
