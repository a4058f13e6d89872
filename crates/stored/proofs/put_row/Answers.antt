-- `stored::put_row` meets its contract: the blocks cover the copies. Assumes nothing.
use native.Mathlib.Omega.{arith}
use mathlib.Core.Path.{◌∙◌, ap}
use mathlib.Core.List.{List}
use Prim.Native.Nat.{ℕ, ◌+◌, ◌*◌, ◌≤◌, ◌<◌}
use Rattle.std.proofs.Math.Nat.{mul_comm}
use lib.ListN.{length}
use Rattle.picture.specs.Fill.{chunk}
use Rattle.block.specs.Copies.{thrice, thrice_below}
use Rattle.block.specs.Store.{put_row}
use Rattle.block.specs.Strips.{covered}
use Rattle.copies.proofs.Runs.{thrice_length}
use Rattle.stored.specs.Room.{run_words, run_blocks}
use Rattle.stored.specs.declared.Run.{Run}
use Rattle.stored.proofs.Copies.{copied, run_copies}
use Rattle.stored.proofs.put_row.Goals as goal

-- each word of a run three times
abbrev words_of : Run → List ℕ
words_of r = thrice r.k (λ j. run_words r (r.x + j) r.y)

-- the run lies in the picture
held : (w h x y k n : ℕ) → x + k ≤ w → y < h → w * h ≤ n → y * w + x + k ≤ n
held w h x y k n along down whole = omega (arith, chunk y h w down, mul_comm w h)

pub put_tagged-requires : goal.put_tagged-requires
put_tagged-requires c =
    let a = c.args in
    let r = a.run in
    let q = c.requires in
    let e = c.copy_rows.ensures ∙ ap (λ (s : List ℕ). thrice_below a.ow 0 s a.out.now) (run_copies r.picture.w r.x r.y r.k r.picture.words.now
    (held r.picture.w r.picture.h r.x r.y r.k (length r.picture.words.now) q.along q.down r.picture.whole)) in (
      rw c.copy_rows.auto.out q,
      rw e (copied a.ow 0 r.k (λ j. run_words r (r.x + j) r.y) a.out.now q.apart q.words),
    )

pub returns : goal.returns
returns c =
    let a = c.args in
    let r = a.run in
    let q = c.requires in
    let e = c.copy_rows.ensures ∙ ap (λ (s : List ℕ). thrice_below a.ow 0 s a.out.now) (run_copies r.picture.w r.x r.y r.k r.picture.words.now
    (held r.picture.w r.picture.h r.x r.y r.k (length r.picture.words.now) q.along q.down r.picture.whole)) in
    c.put_tagged.ensures
    ∙ ap (put_row a.ow 0 r.k (run_blocks r a.tags.now)) e
    ∙ covered a.ow 0 r.k (run_blocks r a.tags.now) (words_of r) a.out.now (thrice_length r.k (λ j. run_words r (r.x + j) r.y)) q.apart q.words
