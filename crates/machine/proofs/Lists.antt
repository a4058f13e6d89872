-- Laws of the operations on lists. Assumes nothing.
use mathlib.Core.Path.{◌≡◌, refl, sym, ap, ap₂, ◌∙◌, subst}
use mathlib.Core.Bool.{Bool, true, false, cond, ◌||◌}
use mathlib.Core.List.{List, [], ◌∷◌, ◌++◌, map}
use Prim.Native.Nat.{ℕ, zero, suc, ◌+◌, ◌-◌, ◌≤◌, ◌<◌, min}
use native.Mathlib.Nat.{add-zero, zero-add, add-suc, suc-add, le_of_suc-le-suc, not-suc-le-zero, min-zero, zero-min, suc-min-suc, zero-sub, suc-sub-suc, sub-zero}
use native.Mathlib.Omega.{arith}
use lib.ListN.{length, get_or, set, length-set, replicate}
use lib.Seq.{set-append_left, slice}
use Rattle.machine.specs.Lists.{table, stamp_from, stamp, set_all, count, first_from, first}
use Rattle.machine.specs.Calls.{is_stale}
use Rattle.machine.specs.Demand3.{byte_of}

-- ---- tests

pub bool_same : (a b : Bool) → (a ≡ true → b ≡ true) → (b ≡ true → a ≡ true) → a ≡ b
bool_same true b f g = sym (f refl)
bool_same false true f g = g refl
bool_same false false f g = refl

pub or_cond : (a b : Bool) (v x : ℕ) → cond (a || b) v x ≡ cond a v (cond b v x)
or_cond true b v x = refl
or_cond false b v x = refl

-- ---- lists

-- every index of a list is below n
abbrev pub Below : ℕ → List ℕ → Type 0
Below n [] = Unit {0}
Below n (b ∷ bs) = (b < n) × Below n bs

module _ {ℓ} {A : Type ℓ} where
  -- ---- stamp
  pub length_stamp : (i : ℕ) (test : ℕ → Bool) (v : A) (l : List A) → length (stamp_from i test v l) ≡ length l
  length_stamp i test v [] = refl
  length_stamp i test v (x ∷ l) = ap suc (length_stamp (suc i) test v l)

  get_or_stamp_from : (i : ℕ) (test : ℕ → Bool) (v : A) (l : List A) (k : ℕ) (d : A) → k < length l
      → get_or (stamp_from i test v l) k d ≡ cond (test (i + k)) v (get_or l k d)
  get_or_stamp_from i test v [] k d h = absurd (not-suc-le-zero h)
  get_or_stamp_from i test v (x ∷ l) zero d h = ap (λ (j : ℕ). cond (test j) v x) (sym (add-zero i))
  get_or_stamp_from i test v (x ∷ l) (suc k) d h =
      get_or_stamp_from (suc i) test v l k d (le_of_suc-le-suc h) ∙ ap (λ (j : ℕ). cond (test j) v (get_or l k d)) (suc-add i k ∙ sym (add-suc i k))

  pub get_or_stamp : (test : ℕ → Bool) (v : A) (l : List A) (k : ℕ) (d : A) → k < length l → get_or (stamp test v l) k d ≡ cond (test k) v (get_or l k d)
  get_or_stamp test v l k d h = get_or_stamp_from 0 test v l k d h ∙ ap (λ (j : ℕ). cond (test j) v (get_or l k d)) (zero-add k)

  -- where the test passes nowhere from n on, the rest of the list stays
  pub stamp_rest : (i n : ℕ) (test : ℕ → Bool) (v : A) (l : List A) → ((k : ℕ) → n ≤ k → test k ≡ false) → n ≤ i → stamp_from i test v l ≡ l
  stamp_rest i n test v [] out h = refl
  stamp_rest i n test v (x ∷ l) out h =
      ap₂ {C = List A} ◌∷◌ (ap (λ (t : Bool). cond t v x) (out i h)) (stamp_rest (suc i) n test v l out (omega arith))

  stamp_from_append : (i : ℕ) (test : ℕ → Bool) (v : A) (l m : List A)
      → stamp_from i test v (l ++ m) ≡ stamp_from i test v l ++ stamp_from (i + length l) test v m
  stamp_from_append i test v [] m = ap (λ (j : ℕ). stamp_from j test v m) (sym (add-zero i))
  stamp_from_append i test v (x ∷ l) m =
      ap {B = List A} (λ r. cond (test i) v x ∷ r)
      (stamp_from_append (suc i) test v l m
      ∙ ap (λ (j : ℕ). stamp_from (suc i) test v l ++ stamp_from j test v m) (suc-add i (length l) ∙ sym (add-suc i (length l))))

  pub stamp_append : (test : ℕ → Bool) (v : A) (l m : List A) → ((k : ℕ) → length l ≤ k → test k ≡ false) → stamp test v (l ++ m) ≡ stamp test v l ++ m
  stamp_append test v l m out =
      stamp_from_append 0 test v l m ∙ ap (λ (r : List A). stamp test v l ++ r) (stamp_rest (0 + length l) (length l) test v m out (omega arith))

  -- ---- set_all
  pub length_set_all : (bs : List ℕ) (v : A) (l : List A) → length (set_all bs v l) ≡ length l
  length_set_all [] v l = refl
  length_set_all (b ∷ bs) v l = length_set_all bs v (set l b v) ∙ length-set l b v

  pub set_all_two : (bs cs : List ℕ) (v : A) (l : List A) → set_all (bs ++ cs) v l ≡ set_all cs v (set_all bs v l)
  set_all_two [] cs v l = refl
  set_all_two (b ∷ bs) cs v l = set_all_two bs cs v (set l b v)

  pub set_all_append : (bs : List ℕ) (v : A) (l m : List A) → Below (length l) bs → set_all bs v (l ++ m) ≡ set_all bs v l ++ m
  set_all_append [] v l m h = refl
  set_all_append (b ∷ bs) v l m h =
      ap (set_all bs v) (set-append_left l m b v h.0)
      ∙ set_all_append bs v (set l b v) m (subst (λ (n : ℕ). Below n bs) (sym (length-set l b v)) h.1)

  set_all_cons : (bs : List ℕ) (v x : A) (l : List A) → set_all (map suc bs) v (x ∷ l) ≡ x ∷ set_all bs v l
  set_all_cons [] v x l = refl
  set_all_cons (b ∷ bs) v x l = set_all_cons bs v x (set l b v)

  -- ---- parts
  pub slice_split : (i j k : ℕ) (l : List A) → i ≤ j → j ≤ k → slice i k l ≡ slice i j l ++ slice j k l
  slice_split zero zero k l a b = refl
  slice_split (suc i) zero k l a b = absurd (not-suc-le-zero a)
  slice_split i (suc j) zero l a b = absurd (not-suc-le-zero b)
  slice_split zero (suc j) (suc k) [] a b = refl
  slice_split (suc i) (suc j) (suc k) [] a b = refl
  slice_split zero (suc j) (suc k) (x ∷ l) a b = ap {B = List A} (λ r. x ∷ r) (slice_split zero j k l (omega arith) (le_of_suc-le-suc b))
  slice_split (suc i) (suc j) (suc k) (x ∷ l) a b = slice_split i j k l (le_of_suc-le-suc a) (le_of_suc-le-suc b)

  -- ---- table
  pub length_table : (n : ℕ) (f : ℕ → A) → length (table n f) ≡ n
  length_table zero f = refl
  length_table (suc n) f = ap suc (length_table n (λ k. f (suc k)))

  pub get_or_table : (n : ℕ) (f : ℕ → A) (k : ℕ) (d : A) → k < n → get_or (table n f) k d ≡ f k
  get_or_table zero f k d h = absurd (not-suc-le-zero h)
  get_or_table (suc n) f zero d h = refl
  get_or_table (suc n) f (suc k) d h = get_or_table n (λ j. f (suc j)) k d (le_of_suc-le-suc h)

  pub table_snoc : (n : ℕ) (f : ℕ → A) → table (suc n) f ≡ table n f ++ (f n ∷ [])
  table_snoc zero f = refl
  table_snoc (suc n) f = ap {B = List A} (λ l. f 0 ∷ l) (table_snoc n (λ k. f (suc k)))

  pub table_same : (n : ℕ) (f g : ℕ → A) → ((k : ℕ) → k < n → f k ≡ g k) → table n f ≡ table n g
  table_same zero f g e = refl
  table_same (suc n) f g e =
      ap₂ {C = List A} ◌∷◌ (e 0 (omega arith)) (table_same n (λ k. f (suc k)) (λ k. g (suc k)) (λ k h. e (suc k) (omega arith)))

pub map-append {ℓ ℓ'} : {A : Type ℓ} {B : Type ℓ'} (f : A → B) (l r : List A) → map f (l ++ r) ≡ map f l ++ map f r
map-append f [] r = refl
map-append {B = B} f (x ∷ l) r = ap {B = List B} (λ t. f x ∷ t) (map-append f l r)

-- ---- the first n that are true

first_suc : (i n : ℕ) (l : List Bool) → first_from (suc i) n l ≡ map suc (first_from i n l)
first_suc i n [] = refl
first_suc i zero (s ∷ l) = refl
first_suc i (suc n) (true ∷ l) = ap {B = List ℕ} (λ r. suc i ∷ r) (first_suc (suc i) n l)
first_suc i (suc n) (false ∷ l) = first_suc (suc i) (suc n) l

pub first_from_below : (i n : ℕ) (l : List Bool) (m : ℕ) → i + length l ≤ m → Below m (first_from i n l)
first_from_below i n [] m h = tt
first_from_below i zero (s ∷ l) m h = tt
first_from_below i (suc n) (true ∷ l) m h = (omega arith, first_from_below (suc i) n l m (omega arith))
first_from_below i (suc n) (false ∷ l) m h = first_from_below (suc i) (suc n) l m (omega arith)

pub first_below : (n : ℕ) (l : List Bool) → Below (length l) (first n l)
first_below n l = first_from_below 0 n l (length l) (omega arith)

pub first_from_length : (i n : ℕ) (l : List Bool) → length (first_from i n l) ≡ min n (count l)
first_from_length i n [] = sym (min-zero n)
first_from_length i zero (s ∷ l) = sym (zero-min (count (s ∷ l)))
first_from_length i (suc n) (true ∷ l) = ap suc (first_from_length (suc i) n l) ∙ sym (suc-min-suc n (count l))
first_from_length i (suc n) (false ∷ l) = first_from_length (suc i) (suc n) l

pub first_none : (i : ℕ) (l : List Bool) → first_from i 0 l ≡ []
first_none i [] = refl
first_none i (t ∷ l) = refl

pub first_from_append : (i n : ℕ) (l r : List Bool)
    → first_from i n (l ++ r) ≡ first_from i n l ++ first_from (i + length l) (n - length (first_from i n l)) r
first_from_append i n [] r = ap₂ (λ (j k : ℕ). first_from j k r) (sym (add-zero i)) (sym (sub-zero n))
first_from_append i zero (t ∷ l) r = sym (first_none (i + suc (length l)) r)
first_from_append i (suc n) (true ∷ l) r =
    ap {B = List ℕ} (λ bs. i ∷ bs)
    (first_from_append (suc i) n l r
    ∙ ap₂ (λ (j k : ℕ). first_from (suc i) n l ++ first_from j k r) (suc-add i (length l) ∙ sym (add-suc i (length l)))
    (sym (suc-sub-suc n (length (first_from (suc i) n l)))))
first_from_append i (suc n) (false ∷ l) r =
    first_from_append (suc i) (suc n) l r
    ∙ ap (λ (j : ℕ). first_from (suc i) (suc n) l ++ first_from j (suc n - length (first_from (suc i) (suc n) l)) r) (suc-add i (length l) ∙ sym (add-suc i (length l)))

pub count_le : (l : List Bool) → count l ≤ length l
count_le [] = omega arith
count_le (true ∷ l) = omega (arith, count_le l)
count_le (false ∷ l) = omega (arith, count_le l)

pub count_append : (l r : List Bool) → count (l ++ r) ≡ count l + count r
count_append [] r = omega arith
count_append (true ∷ l) r = omega (arith, count_append l r)
count_append (false ∷ l) r = count_append l r

-- to ask for all that are true is to ask for no fewer
pub first_from_min : (i n : ℕ) (l : List Bool) → first_from i (min n (count l)) l ≡ first_from i n l
first_from_min i n [] = refl
first_from_min i zero (t ∷ l) = ap (λ (k : ℕ). first_from i k (t ∷ l)) (zero-min (count (t ∷ l)))
first_from_min i (suc n) (true ∷ l) =
    ap (λ (k : ℕ). first_from i k (true ∷ l)) (suc-min-suc n (count l)) ∙ ap {B = List ℕ} (λ bs. i ∷ bs) (first_from_min (suc i) n l)
first_from_min i (suc n) (false ∷ l) = false_first (min (suc n) (count l)) ∙ first_from_min (suc i) (suc n) l
  where
    false_first : (k : ℕ) → first_from i k (false ∷ l) ≡ first_from (suc i) k l
    false_first zero = sym (first_none (suc i) l)
    false_first (suc k) = refl

pub first_min : (n : ℕ) (l : List Bool) → first (min n (count l)) l ≡ first n l
first_min n l = first_from_min 0 n l

-- as many are taken as asked for, or all
pub first_length : (n : ℕ) (l : List Bool) → length (first n l) ≡ min n (count l)
first_length n l = first_from_length 0 n l

-- the first n cleared: n fewer, or none
pub count_cleared : (n : ℕ) (l : List Bool) → count (set_all (first n l) false l) ≡ count l - n
count_cleared n [] = sym (zero-sub n)
count_cleared zero (s ∷ l) = sym (sub-zero (count (s ∷ l)))
count_cleared (suc n) (true ∷ l) =
    ap (λ (bs : List ℕ). count (set_all bs false (false ∷ l))) (first_suc 0 n l)
    ∙ ap count (set_all_cons (first n l) false false l) ∙ count_cleared n l ∙ sym (suc-sub-suc (count l) n)
count_cleared (suc n) (false ∷ l) =
    ap (λ (bs : List ℕ). count (set_all bs false (false ∷ l))) (first_suc 0 (suc n) l)
    ∙ ap count (set_all_cons (first (suc n) l) false false l) ∙ count_cleared (suc n) l

-- none is true
pub none_true : (l : List Bool) → count l ≡ 0 → (b : ℕ) → b < length l → get_or l b true ≡ false
none_true [] e b h = absurd (not-suc-le-zero h)
none_true (true ∷ l) e b h = absurd (omega arith)
none_true (false ∷ l) e zero h = refl
none_true (false ∷ l) e (suc b) h = none_true l e b (le_of_suc-le-suc h)

-- ---- the marks that stand for a list of tests

pub length_bytes : (l : List Bool) → length (map byte_of l) ≡ length l
length_bytes [] = refl
length_bytes (x ∷ l) = ap suc (length_bytes l)

pub stale_bytes : (l : List Bool) → map is_stale (map byte_of l) ≡ l
stale_bytes [] = refl
stale_bytes (true ∷ l) = ap {B = List Bool} (λ r. true ∷ r) (stale_bytes l)
stale_bytes (false ∷ l) = ap {B = List Bool} (λ r. false ∷ r) (stale_bytes l)

pub get_or_bytes : (l : List Bool) (b : ℕ) → is_stale (get_or (map byte_of l) b 1) ≡ get_or l b true
get_or_bytes [] b = refl
get_or_bytes (true ∷ l) zero = refl
get_or_bytes (false ∷ l) zero = refl
get_or_bytes (x ∷ l) (suc b) = get_or_bytes l b

byte_cond : (t s : Bool) → cond t 1 (byte_of s) ≡ byte_of (cond t true s)
byte_cond true s = refl
byte_cond false s = refl

stamp_from_bytes : (i : ℕ) (test : ℕ → Bool) (l : List Bool) → stamp_from i test 1 (map byte_of l) ≡ map byte_of (stamp_from i test true l)
stamp_from_bytes i test [] = refl
stamp_from_bytes i test (s ∷ l) = ap₂ {C = List ℕ} ◌∷◌ (byte_cond (test i) s) (stamp_from_bytes (suc i) test l)

pub stamp_bytes : (test : ℕ → Bool) (l : List Bool) → stamp test 1 (map byte_of l) ≡ map byte_of (stamp test true l)
stamp_bytes test l = stamp_from_bytes 0 test l

set_bytes : (l : List Bool) (b : ℕ) → set (map byte_of l) b 0 ≡ map byte_of (set l b false)
set_bytes [] b = refl
set_bytes (x ∷ l) zero = refl
set_bytes (x ∷ l) (suc b) = ap {B = List ℕ} (λ r. byte_of x ∷ r) (set_bytes l b)

pub set_all_bytes : (bs : List ℕ) (l : List Bool) → set_all bs 0 (map byte_of l) ≡ map byte_of (set_all bs false l)
set_all_bytes [] l = refl
set_all_bytes (b ∷ bs) l = ap (set_all bs 0) (set_bytes l b) ∙ set_all_bytes bs (set l b false)

pub bytes_replicate : (n : ℕ) → map byte_of (replicate n true) ≡ replicate n 1
bytes_replicate zero = refl
bytes_replicate (suc n) = ap {B = List ℕ} (λ l. 1 ∷ l) (bytes_replicate n)

pub count_replicate : (n : ℕ) → count (replicate n true) ≡ n
count_replicate zero = refl
count_replicate (suc n) = ap suc (count_replicate n)

-- all of n that are true
pub first_replicate : (i n : ℕ) (f : ℕ → ℕ) → ((k : ℕ) → f k ≡ i + k) → first_from i n (replicate n true) ≡ table n f
first_replicate i zero f e = refl
first_replicate i (suc n) f e =
    ap₂ {C = List ℕ} ◌∷◌ (sym (e 0 ∙ add-zero i)) (first_replicate (suc i) n (λ k. f (suc k)) (λ k. e (suc k) ∙ add-suc i k ∙ sym (suc-add i k)))
