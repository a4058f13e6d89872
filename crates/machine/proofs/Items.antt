-- A paint list on buffers that hold a state of the machine: what its contract says of them is what the machine does with the items.
-- Assumes nothing.
use mathlib.Core.Path.{◌≡◌, refl, sym, ap, ◌∙◌}
use mathlib.Core.Bool.{Bool, true, false, cond}
use mathlib.Core.List.{List, [], ◌∷◌, ◌++◌}
use Prim.Native.Nat.{ℕ, ◌+◌, ◌*◌, ◌<◌}
use lib.Dec.{ltb, eqb}
use lib.ListN.{length, get_or}
use Rattle.header.specs.declared.Header.{Header}
use Rattle.header.specs.Header.{locked}
use Rattle.paints.specs.declared.Paint.{Paint as Item}
use Rattle.machine.specs.Lists.{count}
use Rattle.machine.specs.Screen.{Screen, Lawful}
use Rattle.machine.specs.Machine.{State, Answer, Painted, PaintedList, number_of, or_else, inside, store, header_of, paint, paints, paint_list}
use Rattle.machine.specs.Calls.{stale_of, side_long, refusal_list, PaintEnd, ItemsEnd, PaintListEnd, paint_end, items_end, paint_list_end, PaintLists}
use Rattle.machine.specs.Demand3.{Buffers}
use Rattle.machine.proofs.Good.{Good, good_store}
use Rattle.machine.proofs.Held.{held, bytes, inside_of, stale_held, beyond_lent, paint_held}

-- ---- the machine alone

module _ (S : Screen) (L : Lawful S) (w h : ℕ) where
  -- what holds of a state, and of it once the word is stored, holds after a paint
  pub by_paint : (P : State → Type 0) (column row word : ℕ) (s : State) → P s
      → (column < w → row < h → locked s.lock column row ≡ false → P (store S w h column row word s)) → P (paint S w h column row word s).0
  by_paint P column row word s same stored =
      by_tests (inside w h column row) refl (eqb word (get_or s.picture (row * w + column) 0)) (locked s.lock column row) refl
    where
      t : State
      t = store S w h column row word s

      by_tests : (b : Bool) → inside w h column row ≡ b → (u k : Bool) → locked s.lock column row ≡ k
          → P
          (cond {A = State × Answer} b
          (cond u (s, Painted 0 0 (count s.stale)) (cond k (s, Painted 11 0 0) (t, Painted 0 1 (count t.stale)))) (s, Painted 5 0 0)).0
      by_tests false e u k f = same
      by_tests true e true k f = same
      by_tests true e false true f = same
      by_tests true e false false f = let i = inside_of w h column row e in stored i.0 i.1 f

  pub good_paint : (column row word : ℕ) (s : State) → Good S w h s → Good S w h (paint S w h column row word s).0
  good_paint column row word s g = by_paint (Good S w h) column row word s g (λ c r f. good_store S L w h column row word s c r g)

  -- what holds of a state and stays so whenever a word is stored, holds after the items of a list, and after the list
  module _ (P : State → Type 0)
      (stored : (column row word : ℕ) (s : State) → P s → column < w → row < h → locked s.lock column row ≡ false → P (store S w h column row word s)) where
    by_items : (items : List Item) (s : State) → P s → P (paints S w h items s).0
    by_items [] s p = p
    by_items (i ∷ is) s p =
        by_items is (paint S w h i.column i.row i.word s).0
        (by_paint P i.column i.row i.word s p (stored i.column i.row i.word s p))

    pub by_list : (items : List Item) (s : State) → P s → P (paint_list S w h items s).0
    by_list items s p = by_number (cond (ltb 64 (length items)) 12 end.1)
      where
        end : State × ℕ
        end = paints S w h items s

        by_test : (t : Bool) (r : ℕ) → P (cond {A = State × Answer} t (end.0, PaintedList 0 (count end.0.stale)) (s, PaintedList r 0)).0
        by_test true r = by_items items s p
        by_test false r = p

        by_number : (r : ℕ) → P (cond {A = State × Answer} (eqb r 0) (end.0, PaintedList 0 (count end.0.stale)) (s, PaintedList r 0)).0
        by_number r = by_test (eqb r 0) r

  good_items : (items : List Item) (s : State) → Good S w h s → Good S w h (paints S w h items s).0
  good_items = by_items (Good S w h) (λ column row word s g c r f. good_store S L w h column row word s c r g)

  pub good_list : (items : List Item) (s : State) → Good S w h s → Good S w h (paint_list S w h items s).0
  good_list = by_list (Good S w h) (λ column row word s g c r f. good_store S L w h column row word s c r g)

-- ---- the list on buffers that hold a state

module _ (S : Screen) (L : Lawful S) (w h : ℕ) (sides : side_long S.side w h ≡ false) (tp to tm : List ℕ) where
  -- what the items leave and the first number that refuses one, with the same behind it
  abbrev items_held : State × ℕ → ItemsEnd
  items_held t = record { picture = t.0.picture ++ tp; marks = bytes t.0 ++ tm; refusal = t.1 }

  items_held_lem : (items : List Item) (s : State) → Good S w h s
      → items_end S (header_of w h s) items (s.picture ++ tp) (bytes s ++ tm) ≡ items_held (paints S w h items s)
  items_held_lem [] s g = refl
  items_held_lem (i ∷ is) s g =
      ap (λ (b : Buffers × Answer). both (number_of b.1) (items_end S (header_of w h s) is b.0.picture b.0.marks)) first
      ∙ ap (both (number_of t.1))
      (ap (λ (k : Header). items_end S k is (t.0.picture ++ tp) (bytes t.0 ++ tm)) same ∙ items_held_lem is t.0 good)
    where
      -- the item as a paint, by the machine and by its contract
      t : State × Answer
      t = paint S w h i.column i.row i.word s

      d : PaintEnd
      d = paint_end S (header_of w h s) (s.picture ++ tp) (bytes s ++ tm) i.column i.row i.word

      both : ℕ → ItemsEnd → ItemsEnd
      both r e = record { picture = e.picture; marks = e.marks; refusal = or_else r e.refusal }

      first : ◌≡◌ {A = Buffers × Answer}
          (record { picture = d.picture; output = s.output ++ to; marks = d.marks }, Painted d.refusal d.changed d.stale)
          (held tp to tm t.0, t.1)
      first = paint_held S L w h sides tp to tm s g i.column i.row i.word d (record { is = refl })

      same : header_of w h s ≡ header_of w h t.0
      same = by_paint S L w h (λ u. header_of w h s ≡ header_of w h u) i.column i.row i.word s refl (λ c r f. refl)

      good : Good S w h t.0
      good = good_paint S L w h i.column i.row i.word s g

  pub list_held : (s : State) (g : Good S w h s) (items : List Item) (d : PaintListEnd)
      → PaintLists S (header_of w h s) (s.picture ++ tp) (bytes s ++ tm) items d
      → ◌≡◌ {A = Buffers × Answer}
      (record { picture = d.picture; output = s.output ++ to; marks = d.marks }, PaintedList d.refusal d.stale)
      (held tp to tm (paint_list S w h items s).0, (paint_list S w h items s).1)
  unfolding paint_list_end
  list_held s g items d q =
      ap turn q.is
      ∙ ap (λ (e : ItemsEnd). turn (choice (refusal_list S.side (header_of w h s) (length P) (length M) (length items) e.refusal) e)) (items_held_lem items s g)
      ∙ ap (λ (r : ℕ). turn (choice r (items_held end)))
      (beyond_lent S L w h sides tp to tm s g (cond (ltb 64 (length items)) 12 end.1))
      ∙ by_number (cond (ltb 64 (length items)) 12 end.1)
    where
      P : List ℕ
      P = s.picture ++ tp

      M : List ℕ
      M = bytes s ++ tm

      end : State × ℕ
      end = paints S w h items s

      turn : PaintListEnd → Buffers × Answer
      turn d = (record { picture = d.picture; output = s.output ++ to; marks = d.marks }, PaintedList d.refusal d.stale)

      choice : ℕ → ItemsEnd → PaintListEnd
      choice r e =
          cond (eqb r 0) (record { picture = e.picture; marks = e.marks; refusal = 0; stale = count (stale_of (w * h) e.marks) })
          (record { picture = P; marks = M; refusal = r; stale = 0 })

      -- what the machine leaves and answers, with the same behind it
      turned : State × Answer → Buffers × Answer
      turned t = (held tp to tm t.0, t.1)

      -- the output is no item's
      output_same : end.0.output ≡ s.output
      output_same = by_items S L w h (λ u. u.output ≡ s.output) (λ column row word u e c r f. e) items s refl

      count_same : count (stale_of (w * h) (bytes end.0 ++ tm)) ≡ count end.0.stale
      count_same = ap count (stale_held S w h end.0 (good_items S L w h items s g) tm)

      by_test : (t : Bool) (r : ℕ)
          → turn (cond t (record { picture = end.0.picture ++ tp; marks = bytes end.0 ++ tm; refusal = 0; stale = count (stale_of (w * h) (bytes end.0 ++ tm)) })
          (record { picture = P; marks = M; refusal = r; stale = 0 }))
          ≡ turned (cond t (end.0, PaintedList 0 (count end.0.stale)) (s, PaintedList r 0))
      by_test true r = λ j. (
        record { picture = end.0.picture ++ tp; output = sym output_same j ++ to; marks = bytes end.0 ++ tm },
        PaintedList 0 (count_same j),
      )
      by_test false r = refl

      by_number : (r : ℕ) → turn (choice r (items_held end)) ≡ turned (cond (eqb r 0) (end.0, PaintedList 0 (count end.0.stale)) (s, PaintedList r 0))
      by_number r = by_test (eqb r 0) r
