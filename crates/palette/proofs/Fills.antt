-- How `replace` fills its buffer: one word more at each turn. Assumes nothing.
use mathlib.Core.Path.{◌≡◌, refl, sym, ap, ◌∙◌}
use mathlib.Core.List.{List, [], ◌∷◌, ◌++◌, map}
use Prim.Native.Nat.{ℕ, zero, suc, ◌+◌, ◌≤◌, ◌<◌}
use native.Mathlib.Nat.{zero-add}
use native.Mathlib.Numerals.{add-one}
use native.Mathlib.Omega.{arith}
use lib.ListN.{length, get_or, take, drop, set, length-set}
use lib.Seq.{drop-cons, set_at, append_snoc}
use Rattle.picture.specs.Fill.{put, put_nil}
use Rattle.palette.specs.Palette.{nearest_of, replaced_of}
use Rattle.palette.proofs.Laws.{replaced_length}

-- ---- the words replaced
map_more : (f : ℕ → ℕ) (l : List ℕ) (i : ℕ) → i < length l → map f (take (suc i) l) ≡ map f (take i l) ++ (f (get_or l i 0) ∷ [])
map_more f [] i h = absurd (omega arith)
map_more f (x ∷ l) zero h = refl
map_more f (x ∷ l) (suc i) h = ap (λ (r : List ℕ). f x ∷ r) (map_more f l i (omega arith))

module _ (palette picture : List ℕ) where
  -- the first i words stand replaced at the front of what l₀ was
  pub record Replaced (l₀ l : List ℕ) (i : ℕ) : Type 0 where
    pub is : l ≡ put 0 (replaced_of palette i picture) l₀
    pub long : length l ≡ length l₀

  pub replaced_none : (l : List ℕ) → Replaced l l 0
  unfolding replaced_of
  replaced_none l = record { is = sym (put_nil 0 l (omega arith)); long = refl }

  front : (l : List ℕ) (i : ℕ) → i ≤ length picture → put 0 (replaced_of palette i picture) l ≡ replaced_of palette i picture ++ drop i l
  unfolding put
  front l i h = ap (λ (n : ℕ). replaced_of palette i picture ++ drop n l) (zero-add (length (replaced_of palette i picture)) ∙ replaced_length palette picture i h)

  one_more : (i : ℕ) → i < length picture
      → replaced_of palette (suc i) picture ≡ replaced_of palette i picture ++ (nearest_of palette (get_or picture i 0) ∷ [])
  unfolding replaced_of
  one_more i h = map_more (nearest_of palette) picture i h

  pub replaced_more : (l₀ l : List ℕ) (i v : ℕ) → i < length picture → i < length l₀ → v ≡ nearest_of palette (get_or picture i 0)
      → Replaced l₀ l i → Replaced l₀ (set l i v) (i + 1)
  replaced_more l₀ l i v hp hl e s = record { is = stored; long = length-set l i v ∙ s.long }
    where
      vs : List ℕ
      vs = replaced_of palette i picture

      stored : set l i v ≡ put 0 (replaced_of palette (i + 1) picture) l₀
      stored =
          ap (λ (m : List ℕ). set m i v) (s.is ∙ front l₀ i (omega arith) ∙ ap (λ (m : List ℕ). vs ++ m) (drop-cons l₀ i 0 hl))
          ∙ set_at vs (get_or l₀ i 0) (drop (suc i) l₀) v i (replaced_length palette picture i (omega arith))
          ∙ ap (λ (m : ℕ). vs ++ (m ∷ drop (suc i) l₀)) e
          ∙ sym (append_snoc vs (nearest_of palette (get_or picture i 0)) (drop (suc i) l₀))
          ∙ ap (λ (m : List ℕ). m ++ drop (suc i) l₀) (sym (one_more i hp))
          ∙ sym (front l₀ (suc i) (omega arith))
          ∙ ap (λ (m : ℕ). put 0 (replaced_of palette m picture) l₀) (sym (add-one i))
