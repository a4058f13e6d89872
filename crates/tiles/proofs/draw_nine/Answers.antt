-- `tiles::draw_nine` meets its contract. Assumes nothing.
use mathlib.Core.Bool.{true}
use Prim.Native.Nat.{ℕ}
use native.Mathlib.Omega.{arith}
use lib.ListN.{replicate, length-replicate}
use borrow.Author.Tests.{eq-eqb}
use Rattle.picture.specs.Picture.{words}
use Rattle.tiles.proofs.Ring.{nine_tile, first_tile, first_room, second_tile, window_held, second_drawn}
use Rattle.tiles.proofs.Shown.{shown}
use Rattle.tiles.proofs.draw_nine.Goals as goal

pub enlarge-requires : goal.enlarge-requires
enlarge-requires c =
    let a = c.args in
    let k = nine_tile a.frame a.t c.requires.0 c.requires.1.0 in
    let e = c.ring-g.ensures in
    (first_tile k.on k.wide k.high e, omega (arith, first_room k.on k.wide k.high e, length-replicate {A = ℕ} 648 0))

pub invariant_of-picture : goal.invariant_of-picture
invariant_of-picture c =
    let f = c.args.frame in
    let k = nine_tile f c.args.t c.requires.0 c.requires.1.0 in
    record {
      whole = window_held k.on k.wide k.high c.ring-g.ensures f.clarity (words f.picture.w f.picture.words.now) (replicate 648 0) _
          (length-replicate {A = ℕ} 648 0) c.enlarge.ensures;
    }

pub draw_from-requires : goal.draw_from-requires
draw_from-requires c =
    let f = c.args.frame in
    let t = c.args.t in
    let k = nine_tile f t c.requires.0 c.requires.1.0 in
    let e = c.ring-g.ensures in
    let full = length-replicate {A = ℕ} 648 0 in (
      c.requires.1.0,
      (
        shown f t _ true (eq-eqb f.scale 9 c.requires.0) (record {
          held = second_tile k.on k.wide k.high e;
          each = second_drawn k.on k.wide k.high e f.clarity (words f.picture.w f.picture.words.now) (replicate 648 0) _ full c.enlarge.ensures;
        }),
        c.requires.1.1,
      ),
    )
