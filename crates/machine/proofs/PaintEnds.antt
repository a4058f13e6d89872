-- What a paint leaves and answers, from its refusal and from whether the word is equal. Assumes nothing.
use mathlib.Core.Path.{◌≡◌, refl, sym, ap, ◌∙◌}
use mathlib.Core.Bool.{Bool, true, false, cond}
use mathlib.Core.List.{List}
use Prim.Native.Nat.{ℕ, ◌+◌, ◌*◌}
use lib.Dec.{eqb}
use lib.ListN.{length, get_or, set, length-set}
use borrow.Author.Tests.{eqb-true, eqb-false, ne_eqb}
use Rattle.header.specs.declared.Header.{Header}
use Rattle.machine.specs.Lists.{stamp, count}
use Rattle.machine.specs.Screen.{Screen}
use Rattle.machine.specs.Machine.{names}
use Rattle.machine.specs.Calls.{stale_of, refusal_paint, PaintEnd, paint_end, Paints}
use Rattle.machine.specs.Items.{StoresWord}
use Rattle.machine.proofs.Lists.{length_stamp}

module _ (S : Screen) (header : Header) where
  abbrev w : ℕ
  w = header.w

  abbrev h : ℕ
  h = header.h

  module _ (p m : List ℕ) (column row word : ℕ) where
    abbrev r : ℕ
    r = refusal_paint S.side header p (length m) column row word

    abbrev end : PaintEnd
    end = paint_end S header p m column row word

    -- what holds of a paint that is refused, of an equal word and of another, holds of what the paint leaves
    pub by_paint_end : (P : PaintEnd → Type 0)
        → ((r ≡ 0 → ⊥) → P (record { picture = p; marks = m; refusal = r; changed = 0; stale = 0 }))
        → (r ≡ 0 → eqb word (get_or p (row * w + column) 0) ≡ true
        → P (record { picture = p; marks = m; refusal = 0; changed = 0; stale = count (stale_of (w * h) m) }))
        → (r ≡ 0 → eqb word (get_or p (row * w + column) 0) ≡ false
        → (let marked = stamp (names S w h column row) 1 m in
        P (record { picture = set p (row * w + column) word; marks = marked; refusal = 0; changed = 1; stale = count (stale_of (w * h) marked) })))
        → P end
    unfolding paint_end
    by_paint_end P refused same other = by_tests (eqb r 0) refl (eqb word (get_or p (row * w + column) 0)) refl
      where
        marked : List ℕ
        marked = stamp (names S w h column row) 1 m

        by_tests : (a : Bool) → eqb r 0 ≡ a → (u : Bool) → eqb word (get_or p (row * w + column) 0) ≡ u
            → P
            (cond a
            (cond u (record { picture = p; marks = m; refusal = 0; changed = 0; stale = count (stale_of (w * h) m) })
            (record { picture = set p (row * w + column) word; marks = marked; refusal = 0; changed = 1; stale = count (stale_of (w * h) marked) }))
            (record { picture = p; marks = m; refusal = r; changed = 0; stale = 0 }))
        by_tests true e true f = same (eqb-true r 0 e) f
        by_tests true e false f = other (eqb-true r 0 e) f
        by_tests false e u f = refused (eqb-false r 0 e)

    pub number_of : end.refusal ≡ r
    number_of = by_paint_end (λ d. d.refusal ≡ r) (λ z. refl) (λ z f. sym z) (λ z f. sym z)

    pub picture_length : length end.picture ≡ length p
    picture_length = by_paint_end (λ d. length d.picture ≡ length p) (λ z. refl) (λ z f. refl) (λ z f. length-set p (row * w + column) word)

    pub marks_length : length end.marks ≡ length m
    marks_length =
        by_paint_end (λ d. length d.marks ≡ length m) (λ z. refl) (λ z f. refl) (λ z f. length_stamp 0 (names S w h column row) 1 m)

    -- the stale count is that of the marks
    count_of : r ≡ 0 → end.stale ≡ count (stale_of (w * h) end.marks)
    count_of e = by_paint_end (λ d. d.stale ≡ count (stale_of (w * h) d.marks)) (λ z. absurd (z e)) (λ z f. refl) (λ z f. refl)

    -- ---- the parts of the call, and the call

    pub stores_same : r ≡ 0 → word ≡ get_or p (row * w + column) 0 → StoresWord S header p m column row word p m 0
    stores_same e q =
        by_paint_end (λ d. (p ≡ d.picture) × ((m ≡ d.marks) × (0 ≡ d.changed))) (λ z. absurd (z e)) (λ z f. (refl, (refl, refl)))
        (λ z f. absurd (eqb-false word (get_or p (row * w + column) 0) f q))

    pub stores_other : r ≡ 0 → (word ≡ get_or p (row * w + column) 0 → ⊥) → (m' : List ℕ) → m' ≡ stamp (names S w h column row) 1 m
        → StoresWord S header p m column row word (set p (row * w + column) word) m' 1
    stores_other e q m' em =
        by_paint_end (λ d. (set p (row * w + column) word ≡ d.picture) × ((m' ≡ d.marks) × (1 ≡ d.changed))) (λ z. absurd (z e))
        (λ z f. absurd (q (eqb-true word (get_or p (row * w + column) 0) f))) (λ z f. (refl, (em, refl)))

    pub paint_refused : (f : ℕ) → f ≡ r → (f ≡ 0 → ⊥)
        → Paints S header p m column row word (record { picture = p; marks = m; refusal = f; changed = 0; stale = 0 })
    unfolding paint_end
    paint_refused f e z = record { is = rw (← e, ne_eqb f 0 z) }

    pub paint_done : r ≡ 0 → (p' m' : List ℕ) (c l : ℕ) → StoresWord S header p m column row word p' m' c → l ≡ count (stale_of (w * h) m')
        → Paints S header p m column row word (record { picture = p'; marks = m'; refusal = 0; changed = c; stale = l })
    paint_done e p' m' c l q el =
        let none : 0 ≡ end.refusal = sym (number_of ∙ e) in
        let counted : l ≡ end.stale = el ∙ ap (λ (k : List ℕ). count (stale_of (w * h) k)) q.1.0 ∙ sym (count_of e) in
        record {
          is = λ i. record { picture = q.0 i; marks = q.1.0 i; refusal = none i; changed = q.1.1 i; stale = counted i };
        }
