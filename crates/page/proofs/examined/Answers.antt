-- `page::examined` meets its contract. Assumes nothing.
use mathlib.Core.Bool.{false}
use mathlib.Core.List.{List}
use mathlib.Core.Path.{◌≡◌, refl}
use Prim.Native.Nat.{ℕ, ◌*◌, ◌≤◌}
use native.Mathlib.Omega.{arith}
use lib.ListN.{length}
use borrow.Author.Tests.{le-ltb}
use Rattle.page.specs.Page.{width, height, broken, wide}
use Rattle.page.specs.declared.Trailer.{Trailer as Found}
use Rattle.page.proofs.Trailers.{Says, says_bad, says_right}
use Rattle.page.proofs.Files.{broken_trailer, broken_length, unbroken, wide_w, wide_h, refused_8, refused_1, refused_2, accepted}
use Rattle.page.proofs.examined.Goals as goal

-- a trailer that is right
module _ (f : List ℕ) (t : Found) (s : Says f t) where
  count_is : t.w * t.h ≡ width f * height f
  count_is = cc (s.w_now, s.h_now)

  -- past the tests of refusal 8
  not_broken : t.back ≡ length f → broken f ≡ false
  not_broken e = unbroken f s.right_now (omega (arith, s.back_now))

  -- and of refusal 1
  not_wide : t.w ≤ 2048 → t.h ≤ 2048 → wide f ≡ false
  unfolding wide
  not_wide w h = rw (le-ltb 2048 (width f) (omega (arith, s.w_now)), le-ltb 2048 (height f) (omega (arith, s.h_now)))

pub returns-in_default : goal.returns-in_default
returns-in_default c = refused_8 c.args.file.now _ _ refl (broken_trailer c.args.file.now (says_bad c.args.file.now c.in_default.ensures))

pub returns-then-page-file : goal.returns-then-page-file
returns-then-page-file c =
    let f = c.args.file.now in
    let s = says_right f c.in-Some.page c.in-Some.ensures in
    refused_8 f _ _ refl (broken_length f (λ q. omega (arith, c.if-page-file.true, s.back_now)))

pub returns-then-page-gt-SIDE : goal.returns-then-page-gt-SIDE
returns-then-page-gt-SIDE c =
    let f = c.args.file.now in
    let t = c.in-Some.page in
    let s = says_right f t c.in-Some.ensures in
    refused_1 f _ _ refl (not_broken f t s (omega arith)) (wide_w f (omega (arith, s.w_now)))

pub returns-then-page-gt-SIDE-2 : goal.returns-then-page-gt-SIDE-2
returns-then-page-gt-SIDE-2 c =
    let f = c.args.file.now in
    let t = c.in-Some.page in
    let s = says_right f t c.in-Some.ensures in
    refused_1 f _ _ refl (not_broken f t s (omega arith)) (wide_h f (omega (arith, s.h_now)))

pub returns-then-room-page : goal.returns-then-room-page
returns-then-room-page c =
    let f = c.args.file.now in
    let t = c.in-Some.page in
    let s = says_right f t c.in-Some.ensures in
    refused_2 f _ _ refl (not_broken f t s (omega arith)) (not_wide f t s (omega arith) (omega arith))
    (omega (arith, c.if-room-page.true, count_is f t s))

pub returns : goal.returns
returns c =
    let f = c.args.file.now in
    let t = c.in-Some.page in
    let s = says_right f t c.in-Some.ensures in
    accepted f _ _ (λ i. record { refusal = 0; w = s.w_now i; h = s.h_now i }) (not_broken f t s (omega arith))
    (not_wide f t s (omega arith) (omega arith)) (omega (arith, c.if-room-page.false, count_is f t s))
