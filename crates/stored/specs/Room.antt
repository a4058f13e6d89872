-- Blocks stored by tags that begin with the first block's, in an output that begins with its first word, and the room that they ask for
-- where the picture's words are all there. Definitions only.
use Rattle.std.specs.Prelude.{List, ℕ, ◌+◌, ◌*◌}
use Rattle.picture.specs.Picture.{words}
use Rattle.grid.specs.declared.Grid.{Grid}
use Rattle.grid.specs.Grid.{tags_at}
use Rattle.block.specs.Block.{block_from}
use Rattle.block.specs.Store.{RowRoom, RectRoom}
use Rattle.stored.specs.declared.Run.{Run}

-- the words of a run's picture
abbrev pub run_words : Run → ℕ → ℕ → ℕ
run_words r = words r.picture.w r.picture.words.now

-- block i of a run
abbrev pub run_blocks : Run → List ℕ → ℕ → List ℕ
run_blocks r tags i = block_from r.picture.w r.picture.h (run_words r) (r.x + i) r.y (tags_at tags (i * 4))

-- block (i, j) of a rectangle of the picture f of w by h; the tags of a row start `stride` bytes after those of the row above it
abbrev pub rect_blocks : ℕ → ℕ → (ℕ → ℕ → ℕ) → Grid → List ℕ → ℕ → ℕ → ℕ → List ℕ
rect_blocks w h f g tags stride i j = block_from w h f (g.x0 + i) (g.y0 + j) (tags_at tags (j * stride + i * 4))

-- t bytes of tags and o words of an output suffice for a run, and for a rectangle
abbrev pub RowFits : Run → ℕ → ℕ → ℕ → Type 0
RowFits r t ow o = RowRoom r.picture.w r.picture.h r.x r.y r.k 0 (r.picture.w * r.picture.h) t ow 0 o

abbrev pub RectFits : ℕ → ℕ → Grid → ℕ → ℕ → ℕ → ℕ → Type 0
RectFits w h g stride t ow o = RectRoom w h g.x0 g.y0 g.cols g.rows 0 stride (w * h) t ow 0 o
