-- The last count that calls answered without a refusal is the stale count. Assumes nothing.
use mathlib.Core.Path.{◌≡◌, refl, ap, ◌∙◌}
use mathlib.Core.Bool.{Bool, true, false, cond}
use mathlib.Core.List.{List, [], ◌∷◌}
use Prim.Native.Nat.{ℕ, ◌+◌, ◌*◌}
use lib.Dec.{ltb, eqb}
use lib.ListN.{length, get_or, replicate}
use borrow.Author.Tests.{ne_eqb}
use Rattle.picture.specs.Refusal as refusal
use Rattle.header.specs.declared.Rectangle.{Rectangle}
use Rattle.header.specs.Header.{past, no_header}
use Rattle.paints.specs.declared.Paint.{Paint as Item}
use Rattle.paints.specs.Paints.{limit}
use Rattle.machine.specs.Lists.{count}
use Rattle.machine.specs.Screen.{Screen, block_words}
use Rattle.machine.specs.Machine.{State, Call, Paint, PaintList, Refresh, Show, Lock, Answer, Painted, PaintedList, Refreshed, Shown, Locked}
use Rattle.machine.specs.Machine.{inside, block_at, paints, header_of, relock, step, after, answers}
use Rattle.registers_machine.specs.Device.{last_count}
use Rattle.registers_machine.proofs.Answers.{paint_cases}

module _ (S : Screen) (w h : ℕ) (s : State) where
  abbrev before : ℕ
  before = count s.stale

  -- of a call that left and answered t
  abbrev Counted : State × Answer → Type 0
  Counted t = last_count before (t.1 ∷ []) ≡ count t.0.stale

  counted_list : (items : List Item) → Counted (step S w h (PaintList items) s)
  counted_list items = by_test (eqb number 0) refl
    where
      end : State × ℕ
      end = paints S w h items s

      number : ℕ
      number = cond (ltb limit (length items)) refusal.items end.1

      by_test : (t : Bool) → eqb number 0 ≡ t
          → Counted (cond {A = State × Answer} t (end.0, PaintedList 0 (count end.0.stale)) (s, PaintedList number 0))
      by_test true e = refl
      by_test false e = ap (λ (t : Bool). cond t 0 before) e

  counted_show : (bx by : ℕ) → Counted (step S w h (Show bx by) s)
  counted_show bx by = by_tests (inside w h bx by) (get_or s.stale (by * w + bx) true)
    where
      zeros : List ℕ
      zeros = replicate (block_words S) 0

      by_tests : (i t : Bool)
          → last_count before (cond i (cond t (Shown refusal.stale zeros) (Shown 0 (block_at S w h bx by s.output))) (Shown refusal.outside zeros) ∷ [])
          ≡ before
      by_tests true true = refl
      by_tests true false = refl
      by_tests false t = refl

  counted_lock : (l : Rectangle) → Counted (step S w h (Lock l) s)
  counted_lock l = by_test (past w h l)
    where
      by_test : (p : Bool)
          → Counted (cond {A = State × Answer} p (s, Locked refusal.lock no_header) (relock l s, Locked 0 (header_of w h (relock l s))))
      by_test true = refl
      by_test false = refl

  counted : (c : Call) → Counted (step S w h c s)
  counted (Paint column row word) =
      paint_cases S w h column row word s Counted refl (λ f z. ap (λ (t : Bool). cond t 0 before) (ne_eqb f 0 z)) refl
  counted (PaintList items) = counted_list items
  counted (Refresh n) = refl
  counted (Show bx by) = counted_show bx by
  counted (Lock l) = counted_lock l

-- one answer, and those after it
count_next : (n : ℕ) (a : Answer) (rs : List Answer) → last_count n (a ∷ rs) ≡ last_count (last_count n (a ∷ [])) rs
count_next n (Painted number changed stale) rs = refl
count_next n (PaintedList number stale) rs = refl
count_next n (Refreshed number drawn left) rs = refl
count_next n (Shown number words) rs = refl
count_next n (Locked number header) rs = refl

pub count_list : (S : Screen) (w h : ℕ) (cs : List Call) (s : State) → last_count (count s.stale) (answers S w h cs s) ≡ count (after S w h cs s).stale
count_list S w h [] s = refl
count_list S w h (c ∷ cs) s =
    let t = step S w h c s in
    count_next (count s.stale) t.1 (answers S w h cs t.0) ∙ ap (λ (n : ℕ). last_count n (answers S w h cs t.0)) (counted S w h s c)
    ∙ count_list S w h cs t.0
