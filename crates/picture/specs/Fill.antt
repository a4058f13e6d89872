-- A list that is written over from a place on, and a run of chunks that is written one after the other. Assumes nothing.
use Rattle.std.specs.Prelude.{◌≡◌, ℕ, zero, suc, ◌+◌, ◌-◌, ◌*◌, ◌≤◌, ◌<◌, Bool}
use Rattle.std.proofs.Math.Path.{refl, sym, ap, ap₂}
use Rattle.std.proofs.Common.{◌∙◌, add-mul, mul_assoc, suc-mul, zero-mul, add_assoc, mul-le-mul_right, add-one, take-append-drop, length-append, length-drop, length-take-le, get_or-append-add}
use mathlib.Core.List.{List, [], ◌∷◌, ◌++◌, append_assoc, append-nil}
use Rattle.std.proofs.Math.Nat.{add-zero}
use Rattle.std.proofs.Math.Numerals.{add-two, add-three}
use native.Mathlib.Omega.{arith}
use Rattle.std.proofs.Math.Bool.{true, false}
use Rattle.std.proofs.Math.Dec.{ltb}
use borrow.Author.Tests.{ltb-true, ltb-false}
use Rattle.std.proofs.Math.ListN.{length, get_or, take, drop, set, length-take, get_or-append}
use Rattle.std.proofs.Math.Seq.{take-take, sets, sets-eq, take-append-le, get_or-take, get_or-drop, drop_at, take_at, drop-drop, drop-append-add}
use Rattle.std.proofs.lemmas.List.{set_comm}

-- entry j of chunk i stands before the end of n chunks; and so does the chunk's end
pub within : (i n j k : ℕ) → i < n → j < k → i * k + j < n * k
within i n j k hi hj = omega (arith, mul-le-mul_right k hi, suc-mul i k)

pub chunk : (i n k : ℕ) → i < n → i * k + k ≤ n * k
chunk i n k hi = omega (arith, mul-le-mul_right k hi, suc-mul i k)

pub add_one_mul : (n k : ℕ) → (n + 1) * k ≡ n * k + k
add_one_mul n k = ap (λ (m : ℕ). m * k) (add-one n) ∙ suc-mul n k

module _ {A : Type 0} where
  -- `vs` written over l from the place b on
  unfoldable pub put : ℕ → List A → List A → List A
  put b vs l = take b l ++ (vs ++ drop (b + length vs) l)

  -- the chunks r 0, .., r (n - 1), one after the other
  abbrev pub flat : ℕ → (ℕ → List A) → List A
  flat zero r = []
  flat (suc n) r = flat n r ++ r n

  -- chunks that are the same one by one
  pub flat_same : (n : ℕ) (r s : ℕ → List A) → ((i : ℕ) → i < n → r i ≡ s i) → flat n r ≡ flat n s
  flat_same zero r s e = refl
  flat_same (suc n) r s e = ap₂ {C = List A} ◌++◌ (flat_same n r s (λ i h. e i (omega arith))) (e n (omega arith))

  pub put_nil : (b : ℕ) (l : List A) → b ≤ length l → put b [] l ≡ l
  unfolding put
  put_nil b l h = rw add-zero (take-append-drop b l)

  pub length_put : (b : ℕ) (vs l : List A) → b + length vs ≤ length l → length (put b vs l) ≡ length l
  unfolding put
  length_put b vs l h = simp (length-append, length-take, length-drop) (omega arith)

  drop_past : (p q : List A) (n m : ℕ) → length p ≡ n → drop (n + m) (p ++ q) ≡ drop m q
  drop_past p q n m e = rw (sym e) (drop-append-add p q m)

  -- the fill law: u at b, and then v after it, is u ++ v at b
  pub put_put : (b : ℕ) (u v l : List A) → b + (length u + length v) ≤ length l → put (b + length u) v (put b u l) ≡ put b (u ++ v) l
  unfolding put
  put_put b u v l h =
      let n = b + length u in
      let p = take b l ++ u in
      let q = drop n l in
      let e : length p ≡ n = simp (length-append, length-take) (omega arith) in
      let a : put b u l ≡ p ++ q = sym (append_assoc (take b l) u q) in
      ap (λ (z : List A). take n z ++ (v ++ drop (n + length v) z)) a
      ∙ ap (λ (z : List A). z ++ (v ++ drop (n + length v) (p ++ q))) (take_at p q n e)
      ∙ ap (λ (z : List A). p ++ (v ++ z)) (drop_past p q n (length v) e ∙ drop-drop (length v) n l)
      ∙ append_assoc (take b l) u (v ++ drop (n + length v) l)
      ∙ ap (λ (z : List A). take b l ++ z) (sym (append_assoc u v (drop (n + length v) l)))
      ∙ ap (λ (z : ℕ). take b l ++ (u ++ v ++ drop z l))
      (add_assoc b (length u) (length v) ∙ ap (λ (z : ℕ). b + z) (sym (length-append u v)))

  get_or_past : (p q : List A) (n m : ℕ) (d : A) → length p ≡ n → get_or (p ++ q) (n + m) d ≡ get_or q m d
  get_or_past p q n m d e = rw (sym e) (get_or-append-add p q m d)

  -- what is read from a list that is written over
  pub get_or_put : (b : ℕ) (vs l : List A) (i : ℕ) (d : A) → i < length vs → b ≤ length l → get_or (put b vs l) (b + i) d ≡ get_or vs i d
  unfolding put
  get_or_put b vs l i d hi hb =
      get_or_past (take b l) (vs ++ drop (b + length vs) l) b i d (length-take-le b l hb)
      ∙ get_or-append vs (drop (b + length vs) l) d i hi

  -- what is read beside the place
  pub get_or_off : (b : ℕ) (vs l : List A) (p : ℕ) (d : A) → b + length vs ≤ length l → (b ≤ p → b + length vs ≤ p)
      → get_or (put b vs l) p d ≡ get_or l p d
  unfolding put
  get_or_off b vs l p d room off = by_test (ltb p b) refl
    where
      by_test : (t : Bool) → ltb p b ≡ t → get_or (take b l ++ (vs ++ drop (b + length vs) l)) p d ≡ get_or l p d
      by_test true q =
          get_or-append (take b l) (vs ++ drop (b + length vs) l) d p (simp length-take (omega (arith, ltb-true p b q)))
          ∙ get_or-take b l p d (ltb-true p b q)
      by_test false q =
          let n = b + length vs in
          let m = p - n in
          let z : p ≡ n + m = omega (arith, off (ltb-false p b q)) in
          ap (λ (i : ℕ). get_or (take b l ++ (vs ++ drop n l)) i d) z
          ∙ ap (λ (k : List A). get_or k (n + m) d) (sym (append_assoc (take b l) vs (drop n l)))
          ∙ get_or_past (take b l ++ vs) (drop n l) n m d (simp (length-append, length-take) (omega arith))
          ∙ get_or-drop n l m d
          ∙ ap (λ (i : ℕ). get_or l i d) (sym z)

  -- element j of chunk i; the chunks below the end are of one length
  pub length_flat_below : (k : ℕ) (r : ℕ → List A) (n : ℕ) → ((i : ℕ) → i < n → length (r i) ≡ k) → length (flat n r) ≡ n * k
  length_flat_below k r zero e = sym (zero-mul k)
  length_flat_below k r (suc n) e =
      length-append (flat n r) (r n) ∙ omega (arith, length_flat_below k r n (λ i h. e i (omega arith)), e n (omega arith), suc-mul n k)

  pub length_flat : (k : ℕ) (r : ℕ → List A) → ((i : ℕ) → length (r i) ≡ k) → (n : ℕ) → length (flat n r) ≡ n * k
  length_flat k r e n = length_flat_below k r n (λ i h. e i)

  pub get_or_flat_below : (k : ℕ) (r : ℕ → List A) (n : ℕ) → ((i : ℕ) → i < n → length (r i) ≡ k) → (i j : ℕ) (d : A) → i < n → j < k
      → get_or (flat n r) (i * k + j) d ≡ get_or (r i) j d
  get_or_flat_below k r zero e i j d hi hj = absurd (omega arith)
  get_or_flat_below k r (suc n) e i j d hi hj =
      by_test (length_flat_below k r n (λ i h. e i (omega arith))) (λ q. get_or_flat_below k r n (λ i h. e i (omega arith)) i j d q hj)
      (ltb i n) refl
    where
      by_test : length (flat n r) ≡ n * k → (i < n → get_or (flat n r) (i * k + j) d ≡ get_or (r i) j d) → (t : Bool) → ltb i n ≡ t
          → get_or (flat n r ++ r n) (i * k + j) d ≡ get_or (r i) j d
      by_test l ih true q =
          get_or-append (flat n r) (r n) d (i * k + j) (omega (arith, within i n j k (ltb-true i n q) hj))
          ∙ ih (ltb-true i n q)
      by_test l ih false q =
          let z : i ≡ n = omega (arith, ltb-false i n q) in
          ap (λ (m : ℕ). get_or (flat n r ++ r n) (m * k + j) d) z
          ∙ get_or_past (flat n r) (r n) (n * k) j d l
          ∙ ap (λ (m : ℕ). get_or (r m) j d) (sym z)

  pub get_or_flat : (k : ℕ) (r : ℕ → List A) → ((i : ℕ) → length (r i) ≡ k) → (n i j : ℕ) (d : A) → i < n → j < k
      → get_or (flat n r) (i * k + j) d ≡ get_or (r i) j d
  get_or_flat k r e n i j d hi hj = get_or_flat_below k r n (λ i h. e i) i j d hi hj

  -- four stores, one after the other
  pub stored4 : (l : List A) (i : ℕ) (a b c d : A) → i + 4 ≤ length l
      → set (set (set (set l i a) (i + 1) b) (i + 2) c) (i + 3) d ≡ put i (a ∷ b ∷ c ∷ d ∷ []) l
  unfolding put
  stored4 l i a b c d h =
      let e : set (set (set (set l i a) (i + 1) b) (i + 2) c) (i + 3) d ≡ sets l i (a ∷ b ∷ c ∷ d ∷ []) =
      rw (add-one, add-two, add-three) in
      e ∙ sets-eq (a ∷ b ∷ c ∷ d ∷ []) l i h ∙ append_assoc (take i l) (a ∷ b ∷ c ∷ d ∷ []) (drop (i + 4) l)

  -- ---- a loop that fills: n chunks of k stand from b on, and the rest is as it was

  pub record Filled (b k n : ℕ) (r : ℕ → List A) (l₀ l : List A) : Type 0 where
    pub is : l ≡ put b (flat n r) l₀
    pub long : length l ≡ length l₀

  pub fill_none : (b k : ℕ) (r : ℕ → List A) (l : List A) → b ≤ length l → Filled b k 0 r l l
  fill_none b k r l h = record { is = sym (put_nil b l h); long = refl }

  -- the chunk v, which is r n, was put at i, which is the end of the n chunks
  pub fill_more : (b k n : ℕ) (r : ℕ → List A) (l₀ l l' : List A) (i : ℕ) (v : List A) → ((j : ℕ) → length (r j) ≡ k)
      → b + (n * k + k) ≤ length l₀
      → Filled b k n r l₀ l → i ≡ b + n * k → v ≡ r n → l' ≡ put i v l → Filled b k (n + 1) r l₀ l'
  fill_more b k n r l₀ l l' i v lens room f ei ev e =
      let s : l' ≡ put (b + n * k) (r n) (put b (flat n r) l₀) = e ∙ cc f.is in
      let q : put (b + n * k) (r n) (put b (flat n r) l₀) ≡ put b (flat (suc n) r) l₀ =
      ap (λ (m : ℕ). put (b + m) (r n) (put b (flat n r) l₀)) (sym (length_flat k r lens n))
      ∙ put_put b (flat n r) (r n) l₀ (omega (arith, length_flat k r lens n, lens n)) in
      let z : l' ≡ put b (flat (n + 1) r) l₀ = s ∙ q ∙ ap (λ (m : ℕ). put b (flat m r) l₀) (sym (add-one n)) in
      record {
        is = z;
        long = ap length (s ∙ q) ∙ length_put b (flat (suc n) r) l₀ (omega (arith, length_flat k r lens (suc n), suc-mul n k));
      }

  pub fill_done : (b k n m : ℕ) (r : ℕ → List A) (l₀ l : List A) → Filled b k n r l₀ l → n ≡ m → l ≡ put b (flat m r) l₀
  fill_done b k n m r l₀ l f e = f.is ∙ ap (λ (i : ℕ). put b (flat i r) l₀) e

  -- m chunks more, put at once
  flat_split : (n m : ℕ) (r : ℕ → List A) → flat (n + m) r ≡ flat n r ++ flat m (λ j. r (n + j))
  flat_split n zero r = ap (λ (i : ℕ). flat i r) (add-zero n) ∙ sym (append-nil (flat n r))
  flat_split n (suc m) r =
      let e : n + suc m ≡ suc (n + m) = omega arith in
      ap (λ (i : ℕ). flat i r) e
      ∙ ap (λ (l : List A). l ++ r (n + m)) (flat_split n m r)
      ∙ append_assoc (flat n r) (flat m (λ j. r (n + j))) (r (n + m))

  pub fill_run : (b k n m : ℕ) (r : ℕ → List A) (l₀ l l' : List A) (i : ℕ) → ((j : ℕ) → length (r j) ≡ k)
      → b + (n * k + m * k) ≤ length l₀
      → Filled b k n r l₀ l → i ≡ b + n * k → l' ≡ put i (flat m (λ j. r (n + j))) l → Filled b k (n + m) r l₀ l'
  fill_run b k n m r l₀ l l' i lens room f ei e =
      let v = flat m (λ j. r (n + j)) in
      let u = length_flat k r lens n in
      let w = length_flat k (λ j. r (n + j)) (λ j. lens (n + j)) m in
      let s : l' ≡ put (b + length (flat n r)) v (put b (flat n r) l₀) = e ∙ cc (f.is, ei, u) in
      let z : l' ≡ put b (flat n r ++ v) l₀ = s ∙ put_put b (flat n r) v l₀ (omega arith) in
      record {
        is = z ∙ ap (λ (x : List A). put b x l₀) (sym (flat_split n m r));
        long = ap length z ∙ length_put b (flat n r ++ v) l₀ (omega (arith, length-append (flat n r) v));
      }

  -- what lies before the place is as it was
  pub take_put : (n b : ℕ) (vs l : List A) → n ≤ b → b ≤ length l → take n (put b vs l) ≡ take n l
  unfolding put
  take_put n b vs l h hb =
      take-append-le n (take b l) (vs ++ drop (b + length vs) l) (simp length-take (omega arith)) ∙ take-take n b l h

  -- inside a list the default does not matter
  pub get_or_any : (l : List A) (i : ℕ) (d d' : A) → i < length l → get_or l i d ≡ get_or l i d'
  get_or_any [] i d d' h = absurd (omega arith)
  get_or_any (x ∷ l) zero d d' h = refl
  get_or_any (x ∷ l) (suc i) d d' h = get_or_any l i d d' (omega arith)

  pub fill_take : (c b k n : ℕ) (r : ℕ → List A) (l₀ l : List A) → c ≤ b → b ≤ length l₀ → Filled b k n r l₀ l → take c l ≡ take c l₀
  fill_take c b k n r l₀ l h hb f = ap (take c) f.is ∙ take_put c b (flat n r) l₀ h hb

  -- ---- a rectangle of chunks, row by row

  pub get_or_rect : (k cols rows : ℕ) (r : ℕ → ℕ → List A) → ((x y : ℕ) → length (r x y) ≡ k) → (x y j : ℕ) (d : A) → x < cols → y < rows
      → j < k
      → get_or (flat rows (λ y. flat cols (λ x. r x y))) ((y * cols + x) * k + j) d ≡ get_or (r x y) j d
  get_or_rect k cols rows r lens x y j d hx hy hj =
      let e : (y * cols + x) * k + j ≡ y * (cols * k) + (x * k + j) =
      omega (arith, add-mul (y * cols) x k, mul_assoc y cols k) in
      ap (λ (i : ℕ). get_or (flat rows (λ y. flat cols (λ x. r x y))) i d) e
      ∙ get_or_flat (cols * k) (λ y. flat cols (λ x. r x y)) (λ y. length_flat k (λ x. r x y) (λ x. lens x y) cols) rows y (x * k + j) d hy
      (within x cols j k hx hj)
      ∙ get_or_flat k (λ x. r x y) (λ x. lens x y) cols x j d hx hj

  pub length_rect : (k cols rows : ℕ) (r : ℕ → ℕ → List A) → ((x y : ℕ) → length (r x y) ≡ k)
      → length (flat rows (λ y. flat cols (λ x. r x y))) ≡ rows * (cols * k)
  length_rect k cols rows r lens =
      length_flat (cols * k) (λ y. flat cols (λ x. r x y)) (λ y. length_flat k (λ x. r x y) (λ x. lens x y) cols) rows

  -- three stores, one after the other
  pub stored3 : (l : List A) (i : ℕ) (a b c : A) → i + 3 ≤ length l → set (set (set l i a) (i + 1) b) (i + 2) c ≡ put i (a ∷ b ∷ c ∷ []) l
  unfolding put
  stored3 l i a b c h =
      let e : set (set (set l i a) (i + 1) b) (i + 2) c ≡ sets l i (a ∷ b ∷ c ∷ []) = rw (add-one, add-two) in
      e ∙ sets-eq (a ∷ b ∷ c ∷ []) l i h ∙ append_assoc (take i l) (a ∷ b ∷ c ∷ []) (drop (i + 3) l)

  -- ---- two puts at places that do not meet, in either order

  put_sets : (b : ℕ) (vs l : List A) → b + length vs ≤ length l → put b vs l ≡ sets l b vs
  unfolding put
  put_sets b vs l h = sym (append_assoc (take b l) vs (drop (b + length vs) l)) ∙ sym (sets-eq vs l b h)

  set_past : (vs l : List A) (i j : ℕ) (a : A) → j < i → sets (set l j a) i vs ≡ set (sets l i vs) j a
  set_past [] l i j a h = refl
  set_past (v ∷ vs) l i j a h =
      ap (λ (m : List A). sets m (suc i) vs) (set_comm l j i a v (λ e. absurd (omega arith)))
      ∙ set_past vs (set l i v) (suc i) j a (omega arith)

  sets_comm : (us vs l : List A) (a b : ℕ) → a + length us ≤ b → sets (sets l b vs) a us ≡ sets (sets l a us) b vs
  sets_comm [] vs l a b h = refl
  sets_comm (u ∷ us) vs l a b h =
      ap (λ (m : List A). sets m (suc a) us) (sym (set_past vs l b a u (omega arith))) ∙ sets_comm us vs (set l a u) (suc a) b (omega arith)

  pub put_comm : (a b : ℕ) (us vs l : List A) → a + length us ≤ b → b + length vs ≤ length l → put a us (put b vs l) ≡ put b vs (put a us l)
  put_comm a b us vs l h k =
      let n = length_put b vs l k in
      let m = length_put a us l (omega arith) in
      put_sets a us (put b vs l) (omega arith)
      ∙ ap (λ (x : List A). sets x a us) (put_sets b vs l k)
      ∙ sets_comm us vs l a b h
      ∙ ap (λ (x : List A). sets x b vs) (sym (put_sets a us l (omega arith)))
      ∙ sym (put_sets b vs (put a us l) (omega arith))

  -- a longer list at the front covers a shorter one
  pub put_over : (us vs l : List A) → length us ≤ length vs → length us ≤ length l → put 0 vs (put 0 us l) ≡ put 0 vs l
  unfolding put
  put_over us vs l h k =
      let m = length vs - length us in
      let e : 0 + length vs ≡ length us + m = omega arith in
      let z : 0 + length us + m ≡ 0 + length vs = omega arith in
      ap (λ (n : ℕ). vs ++ drop n (us ++ drop (0 + length us) l)) e
      ∙ ap (λ (x : List A). vs ++ x) (drop-append-add us (drop (0 + length us) l) m ∙ drop-drop m (0 + length us) l)
      ∙ ap (λ (n : ℕ). vs ++ drop n l) z

  -- and a list covers one as long at its place
  pub put_again : (b : ℕ) (us vs l : List A) → length us ≡ length vs → b + length vs ≤ length l → put b us (put b vs l) ≡ put b us l
  unfolding put
  put_again b us vs l e h =
      let n = b + length vs in
      let a : take b l ++ (vs ++ drop n l) ≡ (take b l ++ vs) ++ drop n l = sym (append_assoc (take b l) vs (drop n l)) in
      let q : drop (b + length us) (take b l ++ (vs ++ drop n l)) ≡ drop (b + length us) l =
      ap (λ (i : ℕ). drop (b + i) (take b l ++ (vs ++ drop n l))) e
      ∙ ap (drop n) a
      ∙ drop_at (take b l ++ vs) (drop n l) n (simp (length-append, length-take) (omega arith))
      ∙ ap (λ (i : ℕ). drop (b + i) l) (sym e) in
      ap₂ {C = List A} (λ x y. x ++ (us ++ y)) (take_put b b vs l (omega arith) (omega arith)) q

  -- the front that was put is read back whole
  pub take_front : (vs l : List A) (n : ℕ) → length vs ≡ n → take n (put 0 vs l) ≡ vs
  unfolding put
  take_front vs l n e = take_at vs (drop (0 + length vs) l) n e
