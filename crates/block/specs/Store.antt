-- Blocks stored side by side, row after row, in an output of rows of ow words, and the room that they ask for. Definitions only.
use Rattle.std.specs.Prelude.{List, ℕ, zero, suc, ◌+◌, ◌*◌, ◌≤◌, ◌<◌}
use Rattle.block.specs.Drawn.{put_block, Plain}

-- the first n blocks of a row, side by side from `at` on
unfoldable pub put_row : ℕ → ℕ → ℕ → (ℕ → List ℕ) → List ℕ → List ℕ
put_row ow at zero blocks l = l
put_row ow at (suc n) blocks l = put_block ow (at + n * 3) (blocks n) (put_row ow at n blocks l)

-- the first n rows of k blocks, one below the other
unfoldable pub put_rect : ℕ → ℕ → ℕ → ℕ → (ℕ → ℕ → List ℕ) → List ℕ → List ℕ
put_rect ow at k zero blocks l = l
put_rect ow at k (suc n) blocks l = put_row ow (at + n * (3 * ow)) k (λ i. blocks i n) (put_rect ow at k n blocks l)

-- and so are k blocks side by side, of the words c
abbrev pub Copied : ℕ → ℕ → ℕ → (ℕ → ℕ) → List ℕ → Type 0
Copied ow at k c l = (i : ℕ) → i < k → Plain ow (at + i * 3) (c i) l

-- there is room in an output of o words for k blocks from (x, y) on, side by side from `at` on, in rows of ow words; the picture is in p
-- words, and their tags are in t bytes from `from` on
pub record RowRoom (w h x y k from p t ow at o : ℕ) : Type 0 where
  pub along : x + k ≤ w
  pub down : y < h
  pub picture : w * h ≤ p
  pub tags : from + k * 4 ≤ t
  pub apart : k * 3 ≤ ow
  pub words : at + 2 * ow + k * 3 ≤ o

-- there is room for k by r blocks from (x, y) on: the last of the output's rows may end with them, and so may the tags, which of a row start
-- `stride` bytes after those of the row above it. Neither rows nor strides are of more than 65,536, far more than the 9 * 682 words and the
-- 4 * 2,048 bytes of any picture, so that no place wraps.
pub record RectRoom (w h x y k r from stride p t ow at o : ℕ) : Type 0 where
  pub along : x + k ≤ w
  pub down : y + r ≤ h
  pub picture : w * h ≤ p
  pub tags : from + r * stride + k * 4 ≤ t + stride
  pub apart : k * 3 ≤ ow
  pub words : at + r * (3 * ow) + k * 3 ≤ o + ow
  pub wide : ow ≤ 65536
  pub long : stride ≤ 65536
