-- Blocks drawn, and marks cleared, by a list of blocks: what is left depends on which blocks the list has, and not on their order. Assumes nothing.
use mathlib.Core.Path.{◌≡◌, refl, sym, ap, ◌∙◌}
use mathlib.Core.Logic.{◌⊎◌, inl, inr, ⊎_elim}
use mathlib.Core.Bool.{Bool, true, false, cond, ◌||◌, false≢true}
use mathlib.Core.List.{List, [], ◌∷◌, ◌++◌}
use Prim.Native.Nat.{ℕ, zero, suc, ◌+◌, ◌*◌, ◌≤◌, ◌<◌}
use native.Mathlib.Nat.{not-suc-le-zero, le_of_suc-le-suc}
use native.Mathlib.Decide.{ℕ_discrete, dec_lt}
use native.Mathlib.Omega.{arith}
use lib.Dec.{eqb}
use lib.ListN.{length, get_or, set}
use lib.Seq.{get_or-set_other, ext_get_or}
use borrow.Author.Tests.{eq-eqb, ne_eqb, eqb-true}
use Rattle.picture.proofs.Bools.{or_left, or_right}
use Rattle.clarity.specs.declared.Clarity.{Clarity}
use Rattle.machine.specs.Lists.{table, set_all, has, count, first_from}
use Rattle.machine.specs.Screen.{Screen, Lawful, block_words}
use Rattle.machine.specs.Machine.{put_block, put_all}
use Rattle.machine.proofs.Places.{spot_onto}
use Rattle.machine.proofs.Lists.{or_cond, Below, length_set_all, first_none}
use Rattle.machine.proofs.Good.{spot_of, drawn, length_put_block, length_put_all, put_at, put_past}

-- ---- which indices a list has

or_cases : (a b : Bool) → (a || b) ≡ true → (a ≡ true) ⊎ (b ≡ true)
or_cases true b e = inl refl
or_cases false b e = inr e

pub append_left : (bs cs : List ℕ) (i : ℕ) → has bs i ≡ true → has (bs ++ cs) i ≡ true
append_left [] cs i e = absurd (false≢true e)
append_left (b ∷ bs) cs i e =
    ⊎_elim (λ f. or_left (has (bs ++ cs) i) (eqb i b) (append_left bs cs i f)) (λ f. or_right (has (bs ++ cs) i) (eqb i b) f)
    (or_cases (has bs i) (eqb i b) e)

pub append_cases : (bs cs : List ℕ) (i : ℕ) → has (bs ++ cs) i ≡ true → (has bs i ≡ true) ⊎ (has cs i ≡ true)
append_cases [] cs i e = inr e
append_cases (b ∷ bs) cs i e =
    ⊎_elim
    (λ f. ⊎_elim (λ g. inl (or_left (has bs i) (eqb i b) g)) (λ g. inr g) (append_cases bs cs i f))
    (λ f. inl (or_right (has bs i) (eqb i b) f))
    (or_cases (has (bs ++ cs) i) (eqb i b) e)

pub table_has : (n : ℕ) (f : ℕ → ℕ) (j : ℕ) → j < n → has (table n f) (f j) ≡ true
table_has zero f j l = absurd (not-suc-le-zero l)
table_has (suc n) f zero l = or_right (has (table n (λ k. f (suc k))) (f 0)) (eqb (f 0) (f 0)) (eq-eqb (f 0) (f 0) refl)
table_has (suc n) f (suc j) l =
    or_left (has (table n (λ k. f (suc k))) (f (suc j))) (eqb (f (suc j)) (f 0)) (table_has n (λ k. f (suc k)) j (le_of_suc-le-suc l))

pub has_table : (n : ℕ) (f : ℕ → ℕ) (i : ℕ) → has (table n f) i ≡ true → (j : ℕ) × (j < n) × (i ≡ f j)
has_table zero f i e = absurd (false≢true e)
has_table (suc n) f i e =
    ⊎_elim
    (λ g. let r = has_table n (λ k. f (suc k)) i g in (suc r.0, omega (arith, r.1), r.2))
    (λ g. (0, omega arith, eqb-true i (f 0) g))
    (or_cases (has (table n (λ k. f (suc k))) i) (eqb i (f 0)) e)

pub below_of : (n : ℕ) (bs : List ℕ) → ((i : ℕ) → has bs i ≡ true → i < n) → Below n bs
below_of n [] f = tt
below_of n (b ∷ bs) f =
    (f b (or_right (has bs b) (eqb b b) (eq-eqb b b refl)), below_of n bs (λ i e. f i (or_left (has bs i) (eqb i b) e)))

pub has_below : (n : ℕ) (bs : List ℕ) → Below n bs → (i : ℕ) → has bs i ≡ true → i < n
has_below n [] l i e = absurd (false≢true e)
has_below n (b ∷ bs) l i e =
    ⊎_elim (λ f. has_below n bs l.1 i f) (λ f. omega (arith, eqb-true i b f, l.0)) (or_cases (has bs i) (eqb i b) e)

-- ---- all that are true

pub first_has : (i n : ℕ) (l : List Bool) (b j : ℕ) → count l ≤ n → b ≡ i + j → get_or l j false ≡ true → has (first_from i n l) b ≡ true
first_has i n [] b j c e t = absurd (false≢true t)
first_has i zero (true ∷ l) b j c e t = absurd (not-suc-le-zero c)
first_has i zero (false ∷ l) b zero c e t = absurd (false≢true t)
first_has i zero (false ∷ l) b (suc j) c e t =
    ap (λ (bs : List ℕ). has bs b) (sym (first_none (suc i) l)) ∙ first_has (suc i) zero l b j c (omega arith) t
first_has i (suc n) (true ∷ l) b zero c e t = or_right (has (first_from (suc i) n l) b) (eqb b i) (eq-eqb b i (omega arith))
first_has i (suc n) (true ∷ l) b (suc j) c e t =
    or_left (has (first_from (suc i) n l) b) (eqb b i) (first_has (suc i) n l b j (le_of_suc-le-suc c) (omega arith) t)
first_has i (suc n) (false ∷ l) b zero c e t = absurd (false≢true t)
first_has i (suc n) (false ∷ l) b (suc j) c e t = first_has (suc i) (suc n) l b j c (omega arith) t

pub has_first : (i n : ℕ) (l : List Bool) (b : ℕ) → has (first_from i n l) b ≡ true → (j : ℕ) × (b ≡ i + j) × (get_or l j false ≡ true)
has_first i n [] b e = absurd (false≢true e)
has_first i zero (t ∷ l) b e = absurd (false≢true e)
has_first i (suc n) (true ∷ l) b e =
    ⊎_elim
    (λ f. let r = has_first (suc i) n l b f in (suc r.0, omega (arith, r.1), r.2))
    (λ f. (0, omega (arith, eqb-true b i f), refl))
    (or_cases (has (first_from (suc i) n l) b) (eqb b i) e)
has_first i (suc n) (false ∷ l) b e = let r = has_first (suc i) (suc n) l b e in (suc r.0, omega (arith, r.1), r.2)

-- ---- marks

set_zero : (m : List ℕ) (b : ℕ) → get_or (set m b 0) b 0 ≡ 0
set_zero [] b = refl
set_zero (x ∷ m) zero = refl
set_zero (x ∷ m) (suc b) = set_zero m b

get_or_clear : (m : List ℕ) (b i : ℕ) → get_or (set m b 0) i 0 ≡ cond (eqb i b) 0 (get_or m i 0)
get_or_clear m b i = by_index (ℕ_discrete i b)
  where
    by_index : Dec (i ≡ b) → get_or (set m b 0) i 0 ≡ cond (eqb i b) 0 (get_or m i 0)
    by_index (yes q) =
        ap (λ (j : ℕ). get_or (set m b 0) j 0) q ∙ set_zero m b ∙ sym (ap (λ (t : Bool). cond t 0 (get_or m i 0)) (eq-eqb i b q))
    by_index (no q) = get_or-set_other m b i 0 0 q ∙ sym (ap (λ (t : Bool). cond t 0 (get_or m i 0)) (ne_eqb i b q))

pub get_or_set_all : (bs m : List ℕ) (i : ℕ) → get_or (set_all bs 0 m) i 0 ≡ cond (has bs i) 0 (get_or m i 0)
get_or_set_all [] m i = refl
get_or_set_all (b ∷ bs) m i =
    get_or_set_all bs (set m b 0) i ∙ ap (λ (x : ℕ). cond (has bs i) 0 x) (get_or_clear m b i) ∙ sym (or_cond (has bs i) (eqb i b) 0 (get_or m i 0))

pub set_all_same : (bs cs m : List ℕ) → ((b : ℕ) → has bs b ≡ has cs b) → set_all bs 0 m ≡ set_all cs 0 m
set_all_same bs cs m e =
    ext_get_or 0 (set_all bs 0 m) (set_all cs 0 m) (length_set_all bs 0 m ∙ sym (length_set_all cs 0 m))
    (λ i l. get_or_set_all bs m i ∙ ap (λ (t : Bool). cond t 0 (get_or m i 0)) (e i) ∙ sym (get_or_set_all cs m i))

-- ---- blocks, in an output that may be longer than all of them

module _ (S : Screen) (L : Lawful S) (w h : ℕ) (q : Clarity) (p : List ℕ) where
  -- word k of block b, once some blocks are drawn
  pub get_or_put_all : (bs out : List ℕ) (b k : ℕ) → Below (w * h) bs → block_words S * (w * h) ≤ length out → b < w * h → k < block_words S
      → get_or (put_all S w h q p bs out) (spot_of S w h b k) 0 ≡ cond (has bs b) (get_or (drawn S w h q p b) k 0) (get_or out (spot_of S w h b k) 0)
  get_or_put_all [] out b k low n l m = refl
  get_or_put_all (c ∷ bs) out b k low n l m =
      get_or_put_all bs (put_block S w h q p c out) b k low.1 (omega (arith, length_put_block S w h q p c out)) l m
      ∙ ap (λ (x : ℕ). cond (has bs b) (get_or (drawn S w h q p b) k 0) x) (put_at S L w h q p c out b k low.0 n l m)
      ∙ sym (or_cond (has bs b) (eqb b c) (get_or (drawn S w h q p b) k 0) (get_or out (spot_of S w h b k) 0))

  pub put_all_past : (bs out : List ℕ) (i : ℕ) → Below (w * h) bs → block_words S * (w * h) ≤ i → get_or (put_all S w h q p bs out) i 0 ≡ get_or out i 0
  put_all_past [] out i low far = refl
  put_all_past (c ∷ bs) out i low far = put_all_past bs (put_block S w h q p c out) i low.1 far ∙ put_past S L w h q p c out i low.0 far

  pub put_all_same : (bs cs out : List ℕ) → Below (w * h) bs → Below (w * h) cs → block_words S * (w * h) ≤ length out
      → ((b : ℕ) → has bs b ≡ has cs b) → put_all S w h q p bs out ≡ put_all S w h q p cs out
  put_all_same bs cs out lb lc n e =
      ext_get_or 0 (put_all S w h q p bs out) (put_all S w h q p cs out) (length_put_all S w h q p bs out ∙ sym (length_put_all S w h q p cs out))
      (λ i l. by_place i (dec_lt i (block_words S * (w * h))))
    where
      by_place : (i : ℕ) → Dec (i < block_words S * (w * h)) → get_or (put_all S w h q p bs out) i 0 ≡ get_or (put_all S w h q p cs out) i 0
      by_place i (yes l) =
          let o = spot_onto S.scale w L.scaled h i l in
          ap (λ (j : ℕ). get_or (put_all S w h q p bs out) j 0) (sym o.4)
          ∙ get_or_put_all bs out o.0 o.1 lb n o.2 o.3
          ∙ ap (λ (t : Bool). cond t (get_or (drawn S w h q p o.0) o.1 0) (get_or out (spot_of S w h o.0 o.1) 0)) (e o.0)
          ∙ sym (get_or_put_all cs out o.0 o.1 lc n o.2 o.3)
          ∙ ap (λ (j : ℕ). get_or (put_all S w h q p cs out) j 0) o.4
      by_place i (no l) = put_all_past bs out i lb (omega arith) ∙ sym (put_all_past cs out i lc (omega arith))
