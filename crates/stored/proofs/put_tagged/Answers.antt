-- `stored::put_tagged` meets its contract: the invariant says that the first i blocks stand over the copies, and a block without tags
-- is its copies. Assumes nothing.
use native.Mathlib.Omega.{arith}
use mathlib.Core.Path.{◌≡◌, ◌∙◌, ap}
use mathlib.Core.List.{List, [], ◌∷◌}
use Prim.Native.Nat.{ℕ, ◌+◌, ◌*◌}
use borrow.Author.Rules.{rules}
use Rattle.std.specs.Int.{from_le_bytes, w32}
use Rattle.grid.specs.Grid.{tags_at}
use Rattle.block.specs.Block.{tag_word, block_from}
use Rattle.block.specs.Drawn.{put_block, Plain}
use Rattle.block.specs.StoreLaws.{Rowed, rowed_none, rowed_more}
use Rattle.tag_words.proofs.Rows.{plain_drawn}
use Rattle.stored.specs.Room.{run_words, run_blocks}
use Rattle.stored.proofs.Copies.{stands}
use Rattle.stored.proofs.put_tagged.Goals as goal

pub loop-i-init : goal.loop-i-init
loop-i-init c = rowed_none c.args.ow 0 (run_blocks c.args.run c.args.tags.now) c.args.out.now

pub put_block-requires : goal.put_block-requires
put_block-requires c =
    let s = c.loop-i in
    let a = c.args in
    let r = c.requires.0 in (
      omega (arith, r.words, s.invariant.long),
      (
        omega (arith, r.apart),
        rw (c.over-picture.ensures.0, c.over-picture.ensures.1.0, c.over-picture.ensures.1.1)
            (stands a.run.picture.w a.run.picture.h a.run.x a.run.y a.run.k a.ow 0 s.i (3 * s.i) a.run.picture.words.now a.out.now s.out
            (run_blocks a.run a.tags.now) r.along r.down r.apart r.words (omega arith) (omega arith) c.requires.1 s.invariant),
      ),
    )

-- four bytes of which the number is 0
none : (a b c d : ℕ) → from_le_bytes w32 (a ∷ b ∷ c ∷ d ∷ []) ≡ 0 → a + 256 * b + 65536 * c + 16777216 * d ≡ 0
none a b c d e = omega (arith, e)

pub loop-i-preserved : goal.loop-i-preserved
loop-i-preserved c =
    let s = c.loop-i in
    let a = c.args in
    let r = c.requires.0 in
    let w = a.run.picture.w in
    let h = a.run.picture.h in
    let f = run_words a.run in
    let t = c.load-t in
    let i : 4 * s.i ≡ s.i * 4 = omega arith in
    let b : List ℕ = block_from w h f (a.run.x + s.i) a.run.y t.result in
    let e = ap (block_from w h f (a.run.x + s.i) a.run.y) (t.ensures ∙ ap (tags_at a.tags.now) i) in
    let plain : Plain a.ow (3 * s.i) (tag_word w h f (a.run.x + s.i) a.run.y 0) s.out =
    stands w h a.run.x a.run.y a.run.k a.ow 0 s.i (3 * s.i) a.run.picture.words.now a.out.now s.out (run_blocks a.run a.tags.now)
    r.along r.down r.apart r.words (omega arith) (omega arith) c.requires.1 s.invariant in
    let drawn : (out : List ℕ) → out ≡ put_block a.ow (3 * s.i) b s.out → Rowed a.ow 0 (s.i + 1) (run_blocks a.run a.tags.now) a.out.now out =
    λ out more. rowed_more a.ow 0 s.i (run_blocks a.run a.tags.now) a.out.now s.out out b (3 * s.i) (omega (arith, r.words)) s.invariant
    (omega arith) e more in
    let stay : from_le_bytes w32 (t.result.t0 ∷ t.result.t1 ∷ t.result.t2 ∷ t.result.t3 ∷ []) ≡ 0 → s.out ≡ put_block a.ow (3 * s.i) b s.out =
    λ z. plain_drawn w h f (a.run.x + s.i) a.run.y a.ow (3 * s.i) t.result s.out
    (omega (arith, r.words, s.invariant.long)) (omega (arith, r.apart)) plain (none _ _ _ _ z) in
    drawn _ (search (rules, stay))
