-- What `specs/Claims.antt` says of whole pictures. Assumes nothing.
use mathlib.Core.Path.{ap, ◌∙◌}
use mathlib.Core.Bool.{Bool, ◌||◌, cond}
use mathlib.Core.List.{List}
use Prim.Native.Nat.{ℕ, ◌*◌}
use lib.Dec.{ltb}
use lib.Ieee.{Float}
use lib.ListN.{take}
use Rattle.picture.specs.Picture.{words}
use Rattle.picture.specs.Refusal as Refusal
use Rattle.clarity.specs.declared.Clarity.{Clarity}
use Rattle.clarity.specs.Clarity.{lawful_of}
use Rattle.sizes.specs.declared.Asked.{Asked}
use Rattle.sizes.specs.declared.Lengths.{Lengths}
use Rattle.sizes.specs.Sizes.{asked3, asked9, lent3, lent9}
use Rattle.enlarged.specs.Whole.{scale_of, singles_of, bytes_of}
use Rattle.whole.specs.Calls.{filled, Scales, Scales9}
use Rattle.enlarged.specs.Laws.{scale_block, scale_standard, singles_standard, bytes_standard}
use Rattle.whole.specs.Claims.{WholeLaws}
use Rattle.enlarged.proofs.Front.{output_same, singles_same, bytes_same, front_words, front_short}

-- a refusal by the picture's length alone
by_picture : (q : Clarity) (a : Asked) (l : Lengths) → Bool → ℕ
by_picture q a l short =
    cond (ltb a.limit a.w || ltb a.limit a.h) Refusal.side
    (cond short Refusal.picture
    (cond (ltb l.output a.output) Refusal.output
    (cond
    (ltb l.middle a.middle || ltb l.replaced a.replaced || ltb l.singles a.scratch || ltb l.bytes a.scratch)
    Refusal.scratch
    (cond (lawful_of q) Refusal.none Refusal.clarity))))

module _ (q : Clarity) (w h : ℕ) (p : List ℕ) where
  abbrev front : List ℕ
  front = take (w * h) p

  scale_front : (o : List ℕ) (s : List Float) (b o' : List ℕ) (s' : List Float) (b' : List ℕ) (r : ℕ)
      → Scales q w h p o s b o' s' b' r → Scales q w h front o s b o' s' b' r
  unfolding by_picture
  scale_front o s b o' s' b' r c = record {
    refusal_now = c.refusal_now ∙ ap (by_picture q (asked3 w h (w * h) 0) (lent3 0 p o s b)) (front_short (w * h) p);
    output_now = c.output_now ∙ ap (λ (v : List ℕ). filled r v o) (output_same q w h (words w p) (words w front) (front_words w h p));
    singles_now = c.singles_now ∙ ap (λ (v : List Float). filled r v s) (singles_same q w h (words w p) (words w front) (front_words w h p));
    bytes_now = c.bytes_now ∙ ap (λ (v : List ℕ). filled r v b) (bytes_same q w h (words w p) (words w front) (front_words w h p));
  }

  -- the second pass is over what the first leaves, which is the same list
  scale9x_front : (o m : List ℕ) (s : List Float) (b o' m' : List ℕ) (s' : List Float) (b' : List ℕ) (r : ℕ)
      → Scales9 q w h p o m s b o' m' s' b' r → Scales9 q w h front o m s b o' m' s' b' r
  unfolding by_picture
  scale9x_front o m s b o' m' s' b' r c =
      let e = output_same q w h (words w p) (words w front) (front_words w h p) in
      record {
        refusal_now = c.refusal_now ∙ ap (by_picture q (asked9 w h (w * h) 0) (lent9 0 p o m s b)) (front_short (w * h) p);
        middle_now = c.middle_now ∙ ap (λ (v : List ℕ). filled r v m) e;
        output_now = c.output_now ∙ ap (λ (v : List ℕ). filled r (scale_of q (3 * w) (3 * h) (words (3 * w) v)) o) e;
        singles_now = c.singles_now ∙ ap (λ (v : List ℕ). filled r (singles_of q (3 * w) (3 * h) (words (3 * w) v)) s) e;
        bytes_now = c.bytes_now ∙ ap (λ (v : List ℕ). filled r (bytes_of q (3 * w) (3 * h) (words (3 * w) v)) b) e;
      }

pub whole_laws : WholeLaws
whole_laws = record {
  scale_block = scale_block;
  scale_standard = scale_standard;
  singles_standard = singles_standard;
  bytes_standard = bytes_standard;
  scale_front = scale_front;
  scale9x_front = scale9x_front;
}
