-- `whole::scale9x` meets its contract: the second pass reads the whole first result, and covers what the first left in singles and bytes.
use native.Mathlib.Omega.{arith}
use mathlib.Core.Path.{◌≡◌, refl, sym, ◌∙◌, ap}
use mathlib.Core.List.{List}
use Prim.Native.Nat.{ℕ, ◌*◌}
use lib.ListN.{length, take, length-take}
use lib.Ieee.{Float}
use Rattle.clarity.specs.declared.Clarity.{Clarity}
use Rattle.picture.specs.Picture.{words}
use Rattle.picture.specs.Fill.{put, put_over, take_front}
use Rattle.enlarged.specs.Whole.{scale_of, singles_of, bytes_of}
use Rattle.enlarged.specs.Laws.{scale_length, singles_length, bytes_length}
use Rattle.picture.specs.Answer.{refusal_of}
use Rattle.sizes.specs.declared.Lengths.{Lengths}
use Rattle.sizes.specs.Sizes.{asked9, lent9, refusal9}
use Rattle.sizes.specs.Sizes.{refusal_of as turned_away}
use Rattle.sizes.proofs.Sizes.{accepted}
use Rattle.whole.proofs.Sizes.{nine_words, written}
use Rattle.whole.proofs.scale9x.Goals as goal

-- what is asked and lent is as the definition has it, and nothing turns the call away
taken : (q : Clarity) (w h : ℕ) (p o m : List ℕ) (s : List Float) (b : List ℕ) (k : ℕ) (l : Lengths) → k ≡ 0
    → k ≡ turned_away q (asked9 w h (w * h) 0) l → l ≡ lent9 0 p o m s b → 0 ≡ refusal9 q w h p o m s b
taken q w h p o m s b k l z e i = sym z ∙ e ∙ ap (turned_away q (asked9 w h (w * h) 0)) i

pub invariant_of-again : goal.invariant_of-again
invariant_of-again c =
    let a = c.args in
    let now = taken a.clarity a.w a.h a.picture.now a.output.now a.middle.now a.singles.now a.bytes.now _ _
    (ap refusal_of c.in_ok-refuse.was) c.refuse.ensures c.of-lent.ensures in
    let k = accepted a.clarity (asked9 a.w a.h (a.w * a.h) 0) (lent9 0 a.picture.now a.output.now a.middle.now a.singles.now a.bytes.now) (sym now) in
    omega (arith, nine_words a.w a.h, length-take (9 * c.area-n.result) c.enlarge.new.output, c.enlarge.auto.output, k.middle_fits, c.area-n.ensures)

pub returns : goal.returns
returns c =
    let a = c.args in
    let now = taken a.clarity a.w a.h a.picture.now a.output.now a.middle.now a.singles.now a.bytes.now _ _
    (ap refusal_of c.in_ok-refuse.was) c.refuse.ensures c.of-lent.ensures in
    let k = accepted a.clarity (asked9 a.w a.h (a.w * a.h) 0) (lent9 0 a.picture.now a.output.now a.middle.now a.singles.now a.bytes.now) (sym now) in
    let n = c.area-n.result in
    let e = c.enlarge.ensures in
    let d = c.enlarge-2.ensures in
    let f = words a.w a.picture.now in
    let m = scale_of a.clarity a.w a.h f in
    let g = words (3 * a.w) m in
    let u = 3 * a.w in
    let v = 3 * a.h in
    let nine : length m ≡ 9 * n = scale_length a.clarity a.w a.h f ∙ ap (λ (i : ℕ). 9 * i)
    (sym c.area-n.ensures) in
    let same : take (9 * n)
    c.enlarge.new.output ≡ m = ap (take (9 * n)) e.output_is ∙ take_front m a.middle.now (9 * n) nine in
    let q = nine_words a.w a.h in
    let s = singles_length a.clarity a.w a.h f in
    let s' = singles_length a.clarity u v g in
    let t = bytes_length a.clarity a.w a.h f in
    let t' = bytes_length a.clarity u v g in
    record {
      refusal_now = now;
      middle_now = written _ _ _ _ refl e.output_is;
      output_now = written _ _ _ _ refl (d.output_is ∙ ap (λ (l : List ℕ). put 0 (scale_of a.clarity u v (words u l)) a.output.now) same);
      singles_now =
          written _ _ _ _ refl
          (d.singles_are ∙ ap (λ (l : List ℕ). put 0 (singles_of a.clarity u v (words u l))
          c.enlarge.new.singles) same
          ∙ ap (put 0 (singles_of a.clarity u v g)) e.singles_are
          ∙ put_over (singles_of a.clarity a.w a.h f) (singles_of a.clarity u v g) a.singles.now (omega arith) (omega (arith, k.singles_fit)));
      bytes_now =
          written _ _ _ _ refl
          (d.bytes_are ∙ ap (λ (l : List ℕ). put 0 (bytes_of a.clarity u v (words u l))
          c.enlarge.new.bytes) same
          ∙ ap (put 0 (bytes_of a.clarity u v g)) e.bytes_are
          ∙ put_over (bytes_of a.clarity a.w a.h f) (bytes_of a.clarity u v g) a.bytes.now (omega arith) (omega (arith, k.bytes_fit)));
    }
