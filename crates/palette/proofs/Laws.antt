-- What holds of the nearest entry: no entry has a smaller N, and the lowest place wins a tie. Assumes nothing.
use mathlib.Core.Path.{◌≡◌, refl, sym, ap, ◌∙◌, subst}
use mathlib.Core.Logic.{◌⊎◌, inl, inr}
use mathlib.Core.Bool.{Bool, true, false}
use mathlib.Core.List.{List, [], ◌∷◌, map}
use Prim.Native.Nat.{ℕ, zero, suc, ◌+◌, ◌≤◌, ◌<◌}
use native.Mathlib.Omega.{arith}
use native.Mathlib.Numerals.{add-one}
use lib.Dec.{ltb}
use lib.ListN.{length, get_or, take, drop, drop_of_length-le, length-map}
use lib.Seq.{drop-cons, get_or-take, length-take-le}
use borrow.Author.Tests.{lt-ltb, le-ltb, ltb-true, ltb-false}
use Rattle.colour.specs.Nearness.{nearness_of}
use Rattle.palette.specs.Palette.{nearer, nearest_after, nearest_of, replaced_of}
use Rattle.palette.specs.Claims.{Nearest, NearestLaws}

-- ---- how the code's loop goes
pub nearest_start : (l : List ℕ) (word : ℕ) → 0 < length l → nearest_after word (get_or l 0 0) (drop 1 l) ≡ nearest_of l word
unfolding nearest_of
nearest_start [] word h = absurd (omega arith)
nearest_start (e ∷ es) word h = refl

pub nearest_none : (l : List ℕ) (word : ℕ) → length l ≡ 0 → 0 ≡ nearest_of l word
unfolding nearest_of
nearest_none [] word h = refl
nearest_none (e ∷ es) word h = absurd (omega arith)

pub nearest_step : (l : List ℕ) (word best i : ℕ) → i < length l
    → nearest_after word best (drop i l) ≡ nearest_after word (nearer word best (get_or l i 0)) (drop (i + 1) l)
unfolding nearest_after
nearest_step l word best i h = rw (add-one, drop-cons l i 0)

nearest_end : (word best : ℕ) (l : List ℕ) (i : ℕ) → length l ≤ i → nearest_after word best (drop i l) ≡ best
unfolding nearest_after
nearest_end word best l i h = rw (drop_of_length-le l {i = i} h)

nearer_taken : (word best entry : ℕ) → nearness_of entry word < nearness_of best word → nearer word best entry ≡ entry
unfolding nearer
nearer_taken word best entry h = rw (lt-ltb (nearness_of entry word) (nearness_of best word) h)

nearer_left : (word best entry : ℕ) → nearness_of best word ≤ nearness_of entry word → nearer word best entry ≡ best
unfolding nearer
nearer_left word best entry h = rw (le-ltb (nearness_of entry word) (nearness_of best word) h)

-- the loop has looked at i of the entries after the first: best is the nearest of all so far, and least its N
pub record Searched (all rest : List ℕ) (word best least i : ℕ) : Type 0 where
  pub is : nearest_after word best (drop i rest) ≡ nearest_of all word
  pub least_is : least ≡ nearness_of best word

pub search_taken : (all rest : List ℕ) (word best least i entry n : ℕ) → i < length rest → entry ≡ get_or rest i 0 → n ≡ nearness_of entry word
    → n < least → Searched all rest word best least i → Searched all rest word entry n (i + 1)
search_taken all rest word best least i entry n h e en k s =
    let z : nearer word best entry ≡ entry = nearer_taken word best entry (omega (arith, s.least_is)) in
    record {
      is = ap (λ (b : ℕ). nearest_after word b (drop (i + 1) rest)) (sym z ∙ ap (nearer word best) e) ∙ sym (nearest_step rest word best i h) ∙ s.is;
      least_is = en;
    }

pub search_left : (all rest : List ℕ) (word best least i entry n : ℕ) → i < length rest → entry ≡ get_or rest i 0 → n ≡ nearness_of entry word
    → least ≤ n → Searched all rest word best least i → Searched all rest word best least (i + 1)
search_left all rest word best least i entry n h e en k s =
    let z : nearer word best entry ≡ best = nearer_left word best entry (omega (arith, s.least_is)) in
    record {
      is = ap (λ (b : ℕ). nearest_after word b (drop (i + 1) rest)) (sym z ∙ ap (nearer word best) e) ∙ sym (nearest_step rest word best i h) ∙ s.is;
      least_is = s.least_is;
    }

pub search_done : (all rest : List ℕ) (word best least i : ℕ) → length rest ≤ i → Searched all rest word best least i → best ≡ nearest_of all word
search_done all rest word best least i h s = sym (nearest_end word best rest i h) ∙ s.is

-- ---- no entry has a smaller N
case_of : {A : Type 0} (word best e : ℕ) → (nearness_of e word < nearness_of best word → nearer word best e ≡ e → A)
    → (nearness_of best word ≤ nearness_of e word → nearer word best e ≡ best → A) → A
case_of {A} word best e f g = go (ltb (nearness_of e word) (nearness_of best word)) refl
  where
    go : (t : Bool) → ltb (nearness_of e word) (nearness_of best word) ≡ t → A
    go true q = let h = ltb-true (nearness_of e word) (nearness_of best word) q in f h (nearer_taken word best e h)
    go false q = let h = ltb-false (nearness_of e word) (nearness_of best word) q in g h (nearer_left word best e h)

nearer_least : (word best e : ℕ) → (nearness_of (nearer word best e) word ≤ nearness_of best word) × (nearness_of (nearer word best e) word ≤ nearness_of e word)
nearer_least word best e = case_of word best e (λ h z. rw z (omega arith)) (λ h z. rw z (omega arith))

after_least : (word best : ℕ) (l : List ℕ) → nearness_of (nearest_after word best l) word ≤ nearness_of best word
unfolding nearest_after
after_least word best [] = omega arith
after_least word best (e ∷ l) = omega (arith, after_least word (nearer word best e) l, (nearer_least word best e).0)

after_least_of : (word best : ℕ) (l : List ℕ) (k : ℕ) → k < length l
    → nearness_of (nearest_after word best l) word ≤ nearness_of (get_or l k 0) word
unfolding nearest_after
after_least_of word best [] k h = absurd (omega arith)
after_least_of word best (e ∷ l) zero h = omega (arith, after_least word (nearer word best e) l, (nearer_least word best e).1)
after_least_of word best (e ∷ l) (suc k) h = after_least_of word (nearer word best e) l k (omega arith)

pub nearest_least : (palette : List ℕ) (word k : ℕ) → k < length palette
    → nearness_of (nearest_of palette word) word ≤ nearness_of (get_or palette k 0) word
unfolding nearest_of
nearest_least [] word k h = absurd (omega arith)
nearest_least (e ∷ l) word zero h = after_least word e l
nearest_least (e ∷ l) word (suc k) h = after_least_of word e l k (omega arith)

-- ---- and the lowest place wins a tie: every entry before it has a larger N
record Later (word best : ℕ) (l : List ℕ) (r : ℕ) : Type 0 where
  place : ℕ
  inside : place < length l
  is : get_or l place 0 ≡ r
  beats : nearness_of r word < nearness_of best word
  lowest : (j : ℕ) → j < place → nearness_of r word < nearness_of (get_or l j 0) word

later : (word best e : ℕ) (l : List ℕ) (r : ℕ) (b : ℕ) → Later word b l r → nearness_of b word ≤ nearness_of best word → nearness_of b word ≤ nearness_of e word
    → Later word best (e ∷ l) r
later word best e l r b t hb he = record {
  place = suc t.place;
  inside = omega (arith, t.inside);
  is = t.is;
  beats = omega (arith, t.beats);
  lowest = below;
}
  where
    below : (j : ℕ) → j < suc t.place → nearness_of r word < nearness_of (get_or (e ∷ l) j 0) word
    below zero h = omega (arith, t.beats)
    below (suc j) h = t.lowest j (omega arith)

after_place : (word best : ℕ) (l : List ℕ) → (nearest_after word best l ≡ best) ⊎ Later word best l (nearest_after word best l)
unfolding nearest_after
after_place word best [] = inl refl
after_place word best (e ∷ l) =
    case_of word best e
    (λ h z. subst (λ (b : ℕ). (nearest_after word b l ≡ best) ⊎ Later word best (e ∷ l) (nearest_after word b l)) (sym z)
    (taken h (nearest_after word e l) (after_place word e l)))
    (λ h z. subst (λ (b : ℕ). (nearest_after word b l ≡ best) ⊎ Later word best (e ∷ l) (nearest_after word b l)) (sym z)
    (left h (nearest_after word best l) (after_place word best l)))
  where
    taken : nearness_of e word < nearness_of best word → (r : ℕ) → (r ≡ e) ⊎ Later word e l r → (r ≡ best) ⊎ Later word best (e ∷ l) r
    taken h r (inl q) = inr (record {
      place = 0;
      inside = omega arith;
      is = sym q;
      beats = rw q h;
      lowest = λ j k. absurd (omega arith);
    })
    taken h r (inr t) = inr (later word best e l r e t (omega arith) (omega arith))

    left : nearness_of best word ≤ nearness_of e word → (r : ℕ) → (r ≡ best) ⊎ Later word best l r → (r ≡ best) ⊎ Later word best (e ∷ l) r
    left h r (inl q) = inl q
    left h r (inr t) = inr (later word best e l r best t (omega arith) h)

pub nearest_first : (palette : List ℕ) (word : ℕ) → 0 < length palette → Nearest palette word (nearest_of palette word)
unfolding nearest_of
nearest_first [] word h = absurd (omega arith)
nearest_first (e ∷ l) word h = go (after_place word e l)
  where
    go : (nearest_after word e l ≡ e) ⊎ Later word e l (nearest_after word e l) → Nearest (e ∷ l) word (nearest_after word e l)
    go (inl q) = record { place = 0; inside = omega arith; entry = sym q; least = nearest_least (e ∷ l) word; lowest = λ j k. absurd (omega arith) }
    go (inr t) =
        record { place = suc t.place; inside = omega (arith, t.inside); entry = t.is; least = nearest_least (e ∷ l) word; lowest = below }
      where
        below : (j : ℕ) → j < suc t.place → nearness_of (nearest_after word e l) word < nearness_of (get_or (e ∷ l) j 0) word
        below zero k = t.beats
        below (suc j) k = t.lowest j (omega arith)

-- which entry it is: no other one has all of it
pub nearest_only : (palette : List ℕ) (word r : ℕ) → Nearest palette word r → r ≡ nearest_of palette word
nearest_only palette word r n =
    let f = nearest_first palette word (omega (arith, n.inside)) in
    let e = ap (λ (x : ℕ). nearness_of x word) f.entry in
    let e' = ap (λ (x : ℕ). nearness_of x word) n.entry in
    let a = n.least f.place f.inside in
    let b = f.least n.place n.inside in
    let up : f.place < n.place → ⊥ = λ q. omega (arith, n.lowest f.place q) in
    let down : n.place < f.place → ⊥ = λ q. omega (arith, f.lowest n.place q) in
    sym n.entry ∙ ap (λ (i : ℕ). get_or palette i 0) (same_place n.place f.place up down) ∙ f.entry
  where
    same_place : (i j : ℕ) → (j < i → ⊥) → (i < j → ⊥) → i ≡ j
    same_place i j u d = omega arith

-- ---- the replaced picture: so many words, and each the entry nearest to the picture's
pub replaced_length : (palette picture : List ℕ) (n : ℕ) → n ≤ length picture → length (replaced_of palette n picture) ≡ n
unfolding replaced_of
replaced_length palette picture n h = length-map (take n picture) (nearest_of palette) ∙ length-take-le n picture h

get_or_of_map : (f : ℕ → ℕ) (l : List ℕ) (i : ℕ) → i < length l → get_or (map f l) i 0 ≡ f (get_or l i 0)
get_or_of_map f [] i h = absurd (omega arith)
get_or_of_map f (x ∷ l) zero h = refl
get_or_of_map f (x ∷ l) (suc i) h = get_or_of_map f l i (omega arith)

pub replaced_word : (palette picture : List ℕ) (n i : ℕ) → n ≤ length picture → i < n
    → get_or (replaced_of palette n picture) i 0 ≡ nearest_of palette (get_or picture i 0)
unfolding replaced_of
replaced_word palette picture n i h k =
    get_or_of_map (nearest_of palette) (take n picture) i (omega (arith, length-take-le n picture h))
    ∙ ap (nearest_of palette) (get_or-take n picture i 0 k)

pub nearest_laws : NearestLaws
nearest_laws = record { nearest = nearest_first; only = nearest_only; as_many = replaced_length; each = replaced_word }
