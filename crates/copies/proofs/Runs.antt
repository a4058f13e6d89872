-- A run of a picture's words, three times each. Assumes nothing.
use mathlib.Core.Path.{◌≡◌, refl, sym, ◌∙◌, ap}
use mathlib.Core.List.{List, [], ◌∷◌}
use Prim.Native.Nat.{ℕ, zero, suc, ◌+◌, ◌-◌, ◌*◌, ◌≤◌, ◌<◌}
use native.Mathlib.Omega.{arith}
use lib.ListN.{length, get_or, take, drop}
use lib.Seq.{get_or-take, get_or-drop, drop-drop}
use borrow.Rule.Slice.PartMut.{put_mid, mid_of}
use Rattle.std.specs.Simd.{first_chunks}
use Rattle.std.proofs.Math.Nat.{suc-mul, zero-mul}
use Rattle.picture.specs.Fill.{put, flat_same, Filled, fill_run, length_flat}
use Rattle.block.specs.Copies.{thrice}
use Rattle.copies.proofs.Parts.{part_put}

-- word j of the run, three times
abbrev pub copies : List ℕ → ℕ → List ℕ
copies words j = get_or words j 0 ∷ get_or words j 0 ∷ get_or words j 0 ∷ []

pub thrice_length : (k : ℕ) (c : ℕ → ℕ) → length (thrice k c) ≡ k * 3
thrice_length k c = length_flat 3 (λ i. c i ∷ c i ∷ c i ∷ []) (λ i. refl) k

-- after n words the next ones, those of a part of the run, are copied from the place `at` on
pub copies_more : (words part : List ℕ) (n m at : ℕ) (l₀ l l' : List ℕ) → n * 3 + m * 3 ≤ length l₀ → m ≡ length part
    → ((j : ℕ) → j < m → get_or part j 0 ≡ get_or words (n + j) 0) → Filled 0 3 n (copies words) l₀ l → at ≡ n * 3
    → l' ≡ put 0 (thrice (length part) (λ j. get_or part j 0)) (mid_of at (length l - at) l)
    → Filled 0 3 (n + m) (copies words) l₀ (put_mid at (length l - at) l l')
copies_more words part n m at l₀ l l' room long same f ea e =
    fill_run 0 3 n m (copies words) l₀ l _ at (λ j. refl) (omega arith) f (omega (arith, ea))
    (part_put at (thrice (length part) (λ j. get_or part j 0)) l l' e
    ∙ ap (λ (k : ℕ). put at (thrice k (λ j. get_or part j 0)) l) (sym long)
    ∙ ap (λ (v : List ℕ). put at v l) (flat_same m _ _ (λ j h. ap (λ (a : ℕ). a ∷ a ∷ a ∷ []) (same j h))))

-- chunk i of n words
pub chunk_at : (n k : ℕ) (words : List ℕ) (i : ℕ) → i < k → get_or (first_chunks n k words) i [] ≡ take n (drop (i * n) words)
chunk_at n zero words i h = absurd (omega arith)
chunk_at n (suc k) words zero h = ap (λ (m : ℕ). take n (drop m words)) (sym (zero-mul n))
chunk_at n (suc k) words (suc i) h =
    let e : n + i * n ≡ suc i * n = omega (arith, suc-mul i n) in
    chunk_at n k (drop n words) i (omega arith) ∙ ap (take n) (drop-drop (i * n) n words ∙ ap (λ (m : ℕ). drop m words) e)

-- and its words
pub chunk_word : (n k : ℕ) (words : List ℕ) (i j : ℕ) → i < k → j < n → get_or (get_or (first_chunks n k words) i []) j 0 ≡ get_or words (i * n + j) 0
chunk_word n k words i j hi hj =
    ap (λ (l : List ℕ). get_or l j 0) (chunk_at n k words i hi) ∙ get_or-take n (drop (i * n) words) j 0 hj ∙ get_or-drop (i * n) words j 0
