-- Counts of marks, the first stale blocks of a run, and runs of stale blocks, one turn of a loop after the other. Assumes nothing.
use mathlib.Core.Path.{◌≡◌, refl, sym, ap, ap₂, ◌∙◌}
use mathlib.Core.Bool.{Bool, true, false, false≢true}
use mathlib.Core.List.{List, [], ◌∷◌, ◌++◌, map}
use Prim.Native.Nat.{ℕ, zero, suc, ◌+◌, ◌-◌, ◌*◌, ◌≤◌, ◌<◌}
use native.Mathlib.Nat.{mul-zero, mul-suc, mul-add, mul_comm, not-suc-le-zero, le_of_suc-le-suc}
use native.Mathlib.Numerals.{add-one}
use native.Mathlib.Decide.{dec_lt}
use native.Mathlib.Omega.{arith}
use lib.Dec.{eqb}
use lib.ListN.{length, get_or, set, take, drop, replicate, take-append-drop, length-map, length-drop, length-replicate, get_or-map, get_or-replicate}
use lib.Seq.{drop-set-lt, take-set-lt, slice, slice_empty, slice-cons, length-slice, length-take-le, ext_get_or, get_or-drop, get_or-take, drop-drop}
use Rattle.std.specs.Int.{from_bool}
use Rattle.std.specs.List.{prefix_len}
use Rattle.std.proofs.lemmas.List.Sums.{prefix_len_passes, prefix_len_stops, prefix_len-le-length}
use Rattle.std.specs.Simd.{first_chunks}
use Rattle.std.proofs.lemmas.Slice.{between_is}
use borrow.Author.Tests.{eqb-true, not-false}
use Rattle.picture.specs.Fill.{get_or_any}
use Rattle.machine.specs.Lists.{set_all, count, first_from}
use Rattle.machine.specs.Calls.{is_stale}
use Rattle.machine.proofs.Lists.{Below, first_from_below, first_from_append, first_from_length, first_none}
use Rattle.machine.proofs.Lists.{count_le, count_append, slice_split, map-append, none_true}
use Rattle.machine.proofs.Ends.{is_stale_lem}
use Rattle.marks.specs.Marks.{stale_in, chosen, StaleRun}

-- ---- a count

-- the stale blocks of a run, in two runs
stale_split : (i j k : ℕ) (m : List ℕ) → i ≤ j → j ≤ k → stale_in i k m ≡ stale_in i j m ++ stale_in j k m
stale_split i j k m a b = ap (map is_stale) (slice_split i j k m a b) ∙ map-append is_stale (slice i j m) (slice j k m)

pub count_split : (i j k : ℕ) (m : List ℕ) → i ≤ j → j ≤ k → count (stale_in i k m) ≡ count (stale_in i j m) + count (stale_in j k m)
count_split i j k m a b = ap count (stale_split i j k m a b) ∙ count_append (stale_in i j m) (stale_in j k m)

-- a run of one block
stale_one : (i j : ℕ) (m : List ℕ) → j ≡ i + 1 → i < length m → stale_in i j m ≡ is_stale (get_or m i 0) ∷ []
stale_one i j m q l =
    let f : j ≡ suc i = q ∙ add-one i in
    ap (map is_stale)
    (slice-cons i j m 0 (omega arith) (omega arith) ∙ ap {B = List ℕ} (λ l. get_or m i 0 ∷ l) (ap (λ (j : ℕ). slice (suc i) j m) f ∙ slice_empty (suc i) m))

pub count_one : (i j : ℕ) (m : List ℕ) → j ≡ i + 1 → i < length m → count (stale_in i j m) ≡ count (is_stale (get_or m i 0) ∷ [])
count_one i j m q l = ap count (stale_one i j m q l)

pub length_stale : (i j : ℕ) (m : List ℕ) → j ≤ length m → length (stale_in i j m) ≡ j - i
length_stale i j m h = length-map (slice i j m) is_stale ∙ length-slice i j m h

-- a run of blocks, and one more
pub count_more : (lo i : ℕ) (m : List ℕ) → lo ≤ i → i < length m → count (stale_in lo (i + 1) m) ≡ count (stale_in lo i m) + from_bool (is_stale (get_or m i 0))
count_more lo i m a l =
    count_split lo i (i + 1) m a (omega arith)
    ∙ ap (λ (c : ℕ). count (stale_in lo i m) + c) (count_one i (i + 1) m refl l ∙ by_test (is_stale (get_or m i 0)))
  where
    by_test : (t : Bool) → count (t ∷ []) ≡ from_bool t
    by_test true = refl
    by_test false = refl

pub count_next : (i : ℕ) (m : List ℕ) → i < length m → count (map is_stale (take (i + 1) m)) ≡ count (map is_stale (take i m)) + from_bool (is_stale (get_or m i 0))
count_next i m l = count_more 0 i m (omega arith) l

pub one_few : (t : Bool) → from_bool t ≤ 1
one_few true = omega arith
one_few false = omega arith

-- piece i of a list cut into pieces of n
pub piece : (n k i : ℕ) (m d : List ℕ) → i < k → get_or (first_chunks n k m) i d ≡ take n (drop (n * i) m)
piece n zero i m d l = absurd (not-suc-le-zero l)
piece n (suc k) zero m d l = ap (λ (j : ℕ). take n (drop j m)) (sym (mul-zero n))
piece n (suc k) (suc i) m d l =
    piece n k i (drop n m) d (le_of_suc-le-suc l)
    ∙ ap (take n) (drop-drop (n * i) n m) ∙ ap (λ (j : ℕ). take n (drop j m)) (omega (arith, mul-suc n i))

-- the first i pieces, and one more
count_piece : (n i : ℕ) (m : List ℕ) → count (map is_stale (take (n * (i + 1)) m)) ≡ count (map is_stale (take (n * i) m)) + count (map is_stale (take n (drop (n * i) m)))
count_piece n i m =
    let e : n * (i + 1) ≡ n * i + n = omega (arith, mul-add n i 1) in
    let d : n * (i + 1) - n * i ≡ n = omega (arith, e) in
    count_split 0 (n * i) (n * (i + 1)) m (omega arith) (omega (arith, e))
    ∙ ap (λ (l : List ℕ). count (map is_stale (take (n * i) m)) + count (map is_stale l))
    (sym (between_is m (n * i) (n * (i + 1))) ∙ ap (λ (j : ℕ). take j (drop (n * i) m)) d)

count_rest : (i : ℕ) (m : List ℕ) → count (map is_stale m) ≡ count (map is_stale (take i m)) + count (map is_stale (drop i m))
count_rest i m =
    ap (λ (l : List ℕ). count (map is_stale l)) (sym (take-append-drop i m)) ∙ ap count (map-append is_stale (take i m) (drop i m))
    ∙ count_append (map is_stale (take i m)) (map is_stale (drop i m))

-- a run counted piece by piece: c in the first i pieces, d in the next one or in what is left
module _ (lo hi : ℕ) (m : List ℕ) (l : lo ≤ hi) (h : hi ≤ length m) (n k i : ℕ) (c d : ℕ) where
  abbrev part : List ℕ
  part = take (hi - lo) (drop lo m)

  abbrev Counted : Type 0
  Counted = c ≡ count (map is_stale (take (n * i) part))

  whole : count (map is_stale part) ≡ count (stale_in lo hi m)
  whole = ap (λ (l : List ℕ). count (map is_stale l)) (between_is m lo hi)

  pub piece_more : (pieces : List (List ℕ)) → pieces ≡ first_chunks n k part → length pieces ≡ k → i < length pieces → Counted
      → d ≡ count (map is_stale (get_or pieces i [])) → c + d ≡ count (map is_stale (take (n * (i + 1)) part))
  piece_more pieces q f u e g =
      ap₂ ◌+◌ e (g ∙ ap (λ (p : List ℕ). count (map is_stale p)) (ap (λ (r : List (List ℕ)). get_or r i []) q ∙ piece n k i part [] (omega arith)))
      ∙ sym (count_piece n i part)

  pub pieces_few : (j : ℕ) → c + d ≡ count (map is_stale (take j part)) → c + d ≤ hi - lo
  pieces_few j e = omega (arith, e, count_rest j part, whole, length_stale lo hi m h, count_le (stale_in lo hi m))

  pub piece_last : (rest : List ℕ) → i ≡ k → rest ≡ drop (k * n) part → Counted → d ≡ count (map is_stale rest) → c + d ≡ count (stale_in lo hi m)
  piece_last rest q r e g =
      ap₂ ◌+◌ e (g ∙ ap (λ (p : List ℕ). count (map is_stale p)) r ∙ ap (λ (j : ℕ). count (map is_stale (drop j part))) (ap (λ (j : ℕ). j * n) (sym q) ∙ mul_comm i n))
      ∙ sym (count_rest (n * i) part) ∙ whole

pub count_none : (i : ℕ) (m : List ℕ) → count (stale_in i i m) ≡ 0
count_none i m = ap (λ (l : List ℕ). count (map is_stale l)) (slice_empty i m)

-- a run has no more stale blocks than blocks
pub count_run_le : (i j : ℕ) (m : List ℕ) → j ≤ length m → count (stale_in i j m) ≤ j - i
count_run_le i j m h = omega (arith, count_le (stale_in i j m), length_stale i j m h)

-- where fewer are stale before i than in the whole run, i is not its end
pub run_left : (lo i hi : ℕ) (m : List ℕ) → lo ≤ i → i ≤ hi → hi ≤ length m → count (stale_in lo i m) < count (stale_in lo hi m) → i < hi
run_left lo i hi m a b h l = omega (arith, count_split lo i hi m a b, count_run_le i hi m h)

-- ---- the first n stale blocks of a run, in two runs

slice_set : (j k b : ℕ) (v : ℕ) (m : List ℕ) → b < j → j ≤ k → slice j k (set m b v) ≡ slice j k m
slice_set j k b v m l h = ap (drop j) (take-set-lt k m b v (omega arith)) ∙ drop-set-lt j (take k m) b v l

slice_set_all : (j k : ℕ) (bs m : List ℕ) → Below j bs → j ≤ k → slice j k (set_all bs 0 m) ≡ slice j k m
slice_set_all j k [] m l h = refl
slice_set_all j k (b ∷ bs) m l h = slice_set_all j k bs (set m b 0) l.1 h ∙ slice_set j k b 0 m l.0 h

-- the marks from j on, once blocks before j are cleared
pub stale_after : (i j k n : ℕ) (m : List ℕ) → i ≤ j → j ≤ k → k ≤ length m → stale_in j k (set_all (chosen i j n m) 0 m) ≡ stale_in j k m
stale_after i j k n m a b l =
    let low : Below j (chosen i j n m) = first_from_below i n (stale_in i j m) j (omega (arith, length_stale i j m (omega arith))) in
    ap (map is_stale) (slice_set_all j k (chosen i j n m) m low b)

-- the blocks from i on: those before j, and then those from j on
pub chosen_split : (i j k n : ℕ) (m : List ℕ) → i ≤ j → j ≤ k → k ≤ length m
    → chosen i k n m ≡ chosen i j n m ++ chosen j k (n - length (chosen i j n m)) (set_all (chosen i j n m) 0 m)
chosen_split i j k n m a b l =
    let bs = chosen i j n m in
    let e : i + length (stale_in i j m) ≡ j = omega (arith, length_stale i j m (omega arith)) in
    let low : Below j bs = first_from_below i n (stale_in i j m) j (omega (arith, e)) in
    ap (first_from i n) (stale_split i j k m a b) ∙ first_from_append i n (stale_in i j m) (stale_in j k m)
    ∙ ap₂ (λ (c : ℕ) (l : List ℕ). bs ++ first_from c (n - length bs) (map is_stale l)) e (sym (slice_set_all j k bs m low b))

pub none_wanted : (i k n d : ℕ) (m : List ℕ) → n ≤ d → chosen i k (n - d) m ≡ []
none_wanted i k n d m h = ap (λ (j : ℕ). first_from i j (stale_in i k m)) zero_left ∙ first_none i (stale_in i k m)
  where
    zero_left : n - d ≡ 0
    zero_left = omega arith

pub none_left : (i j n : ℕ) (m : List ℕ) → i ≡ j → chosen i j n m ≡ []
none_left i j n m e = ap (λ (i : ℕ). chosen i j n m) e ∙ ap (λ (l : List ℕ). first_from j n (map is_stale l)) (slice_empty j m)

-- nor where none is stale
pub none_stale : (i j n : ℕ) (m : List ℕ) → count (stale_in i j m) ≡ 0 → chosen i j n m ≡ []
none_stale i j n m e = empty (chosen i j n m) (omega (arith, first_from_length i n (stale_in i j m)))
  where
    empty : (l : List ℕ) → length l ≡ 0 → l ≡ []
    empty [] q = refl
    empty (x ∷ l) q = absurd (omega arith)

-- ---- single marks

-- whether a block of a run is stale
pub stale_at : (lo hi j : ℕ) (m : List ℕ) → lo + j < hi → get_or (stale_in lo hi m) j false ≡ is_stale (get_or m (lo + j) 0)
stale_at lo hi j m l = get_or-map is_stale (slice lo hi m) j 0 ∙ ap is_stale (get_or-drop lo (take hi m) j 0 ∙ get_or-take hi m (lo + j) 0 l)

fresh : (m : ℕ) → is_stale m ≡ false → m ≡ 0
fresh m e = eqb-true m 0 (not-false (eqb m 0) e)

-- where none of a run is stale, each of its marks is 0
pub none_clear : (lo hi : ℕ) (m : List ℕ) → count (stale_in lo hi m) ≡ 0 → hi ≤ length m → (b : ℕ) → lo ≤ b → b < hi → get_or m b 0 ≡ 0
none_clear lo hi m e h b l u =
    let j : ℕ = b - lo in
    let q : lo + j ≡ b = omega arith in
    let n : j < length (stale_in lo hi m) = omega (arith, length_stale lo hi m h) in
    ap (λ (i : ℕ). get_or m i 0) (sym q)
    ∙ fresh (get_or m (lo + j) 0)
    (sym (stale_at lo hi j m (omega arith)) ∙ get_or_any (stale_in lo hi m) j false true n ∙ none_true (stale_in lo hi m) e j n)

-- ---- stale blocks side by side: those at the front of a part, the first of which is stale

pub run_of_front : (i most : ℕ) (m : List ℕ) → i + most ≤ length m → 0 < most → (get_or m i 0 ≡ 0 → ⊥)
    → StaleRun i most m (prefix_len is_stale (take most (drop i m)))
run_of_front i most m l some first = record {
  some = begun (dec_lt 0 r);
  few = few;
  all_stale =
      ext_get_or false (stale_in i (i + r) m) (replicate r true) (long ∙ sym (length-replicate r true))
      (λ k h.
      let q : k < r = omega (arith, long) in
      stale_at i (i + r) k m (omega arith) ∙ ap is_stale (sym (at k (omega (arith, few))))
      ∙ prefix_len_passes is_stale part k 0 q ∙ sym (get_or-replicate r k true false q));
}
  where
    part : List ℕ
    part = take most (drop i m)

    r : ℕ
    r = prefix_len is_stale part

    parts : length part ≡ most
    parts = length-take-le most (drop i m) (omega (arith, length-drop i m))

    few : r ≤ most
    few = omega (arith, parts, prefix_len-le-length is_stale part)

    long : length (stale_in i (i + r) m) ≡ r
    long = omega (arith, length_stale i (i + r) m (omega (arith, few)))

    at : (k : ℕ) → k < most → get_or part k 0 ≡ get_or m (i + k) 0
    at k h = get_or-take most (drop i m) k 0 h ∙ get_or-drop i m k 0

    begun : Dec (0 < r) → 0 < r
    begun (yes q) = q
    begun (no q) =
        let e : r ≡ 0 = omega arith in
        let z : get_or part r 0 ≡ get_or m i 0 = ap (λ (k : ℕ). get_or part k 0) e ∙ at 0 some ∙ ap (λ (k : ℕ). get_or m k 0) (omega arith) in
        absurd (false≢true (sym (prefix_len_stops is_stale part 0 (omega (arith, parts))) ∙ is_stale_lem (get_or part r 0) (λ f. first (sym z ∙ f))))
