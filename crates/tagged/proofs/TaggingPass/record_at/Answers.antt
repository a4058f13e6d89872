-- `tagged::Tagging::record_at` meets its contract: where the pixel is bare its tags are 0, and where those beside it decide they are
-- what those give. Assumes nothing.
use Rattle.std.proofs.Common.{rules}
use mathlib.Core.Path.{◌≡◌, sym, ◌∙◌, ap}
use mathlib.Core.Bool.{true}
use Prim.Native.Nat.{ℕ, ◌<◌}
use lib.IntN.{pos}
use Rattle.picture.specs.Picture.{near}
use Rattle.junction.specs.declared.Junctions.{Junctions}
use Rattle.tag.specs.declared.Cross.{Cross}
use Rattle.tag.specs.declared.Tags.{Tags}
use Rattle.tag.specs.Laws.{none}
use Rattle.tag.specs.Tag.{tags, trace_edges}
use Rattle.tag.specs.Words.{Near, bare_of, near_of}
use Rattle.tag.proofs.Exits.{bare_none, near_all}
use Rattle.grid.specs.Grid.{junctions_field}
use Rattle.grid.specs.Near.{cross_of}
use Rattle.grid.proofs.Moves.{stay}
use Rattle.grid.proofs.Reading.{near_at}
use Rattle.tagged.proofs.TaggingPass.record_at.Goals as goal

module _ (w h : ℕ) (j : ℕ → ℕ → Junctions) (x y : ℕ) (hx : x < w) (hy : y < h) (e : Junctions) (ee : e ≡ j x y) where
  -- the pixel's own record
  own : e ≡ near w h j x y (pos 0) (pos 0)
  own = near_at j w h x y (pos 0) (pos 0) (stay w x hx) (stay h y hy) ee

  -- the tags of a bare pixel
  none_at : bare_of e ≡ true → none ≡ tags w h j x y
  unfolding tags
  none_at b = sym (bare_none (near w h j x y (pos 0) (pos 0)) _ _ _ _ _ _ _ _ _ _ _ _ (ap bare_of (sym own) ∙ b))

  -- those that the records at distance 1 decide
  known_at : (t : Tags) (n : Cross Junctions) → n ≡ cross_of w h j x y 1
      → record { tags = t; known = true } ≡ near_of e n.left n.right n.up n.down → t ≡ tags w h j x y
  unfolding tags near_of
  known_at t n en k =
      let a = cross_of w h j x y 1 in
      let q : record { tags = t; known = true } ≡ near_of (near w h j x y (pos 0) (pos 0)) a.left a.right a.up a.down = k ∙ rw (own, en) in
      ap (λ (z : Near). z.tags) q
      ∙ near_all (near w h j x y (pos 0) (pos 0)) _ _ _ _ _ _ _ _ _ _ _ _ (sym (ap (λ (z : Near). z.known) q))

  -- and those of all three distances
  all_at : (t : Tags) (a b d : Cross Junctions) → a ≡ cross_of w h j x y 1 → b ≡ cross_of w h j x y 2 → d ≡ cross_of w h j x y 3
      → t ≡ trace_edges e a.left b.left d.left a.right b.right d.right a.up b.up d.up a.down b.down d.down → t ≡ tags w h j x y
  unfolding tags
  all_at t a b d ea eb ed k = k ∙ rw (own, ea, eb, ed)

pub returns-then-bare-clause-made : goal.returns-then-bare-clause-made
unfolding junctions_field
returns-then-bare-clause-made c =
    let s = c.args.self.now in
    let j = junctions_field s.junctions.of s.junctions.elements.now in
    none_at s.w s.h j c.args.x c.args.y c.requires.on_x c.requires.on_y _ c.at-e.ensures
    (sym c.bare.ensures ∙ c.if-bare.true)

pub returns-in-Some-clause-made : goal.returns-in-Some-clause-made
unfolding junctions_field
returns-in-Some-clause-made c =
    let s = c.args.self.now in
    let j = junctions_field s.junctions.of s.junctions.elements.now in
    known_at s.w s.h j c.args.x c.args.y c.requires.on_x c.requires.on_y _ c.at-e.ensures
    c.in-Some.t _ c.cross-near.ensures c.in-Some.ensures

pub returns-clause-made : goal.returns-clause-made
unfolding junctions_field
returns-clause-made c =
    let s = c.args.self.now in
    let j = junctions_field s.junctions.of s.junctions.elements.now in
    all_at s.w s.h j c.args.x c.args.y c.requires.on_x c.requires.on_y _ (search rules)
    _ _ _ _ c.cross-near.ensures (search rules) (search rules) c.trace_edges.ensures
