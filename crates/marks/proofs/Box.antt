-- The marks of a run, and of a box run by run; a block near a pixel lies in the box round it. Assumes nothing.
use mathlib.Core.Path.{◌≡◌, refl, sym, ap, ap₂, ◌∙◌, subst}
use mathlib.Core.Bool.{Bool, true, false, cond, ◌&&◌, ◌||◌, false≢true, and-eq-true_iff, or-true}
use mathlib.Core.List.{List, ◌++◌}
use Prim.Native.Nat.{ℕ, ◌+◌, ◌-◌, ◌*◌, ◌/◌, ◌%◌, ◌≤◌, ◌<◌, min}
use native.Mathlib.Nat.{div-add-mod', le-div_iff_mul-le, div-lt_iff_lt-mul, mod-lt}
use native.Mathlib.Decide.{dec_lt}
use native.Mathlib.Omega.{arith}
use lib.Dec.{ltb, leb}
use lib.ListN.{length, get_or, take, drop, replicate, length-drop, length-replicate, get_or-replicate, get_or-append}
use lib.Seq.{ext_get_or, get_or-append_right, get_or-take, get_or-drop, length-take-le}
use borrow.Rule.Slice.PartMut.{put_mid, same_len_mid}
use borrow.Author.Tests.{le-leb, lt-ltb, ltb-true, leb-true}
use Rattle.picture.specs.Local.{In}
use Rattle.machine.specs.Lists.{stamp, set_all, has}
use Rattle.marks.specs.Marks.{run, blocks_from, between, boxed}
use Rattle.machine.proofs.Places.{block_lt, row_lt}
use Rattle.machine.proofs.Lists.{bool_same, or_cond, length_stamp, get_or_stamp, length_set_all}
use Rattle.machine.proofs.Order.{table_has, has_table, get_or_set_all}

both : {a b : Bool} → a ≡ true → b ≡ true → (a && b) ≡ true
both e f = ap₂ ◌&&◌ e f

and_of : (a b : Bool) → (a && b) ≡ true → (a ≡ true) × (b ≡ true)
and_of a b e = (and-eq-true_iff a b).0 e

-- ---- two stamps of one value, and the same stamp by another test

pub stamp_two : (t u r : ℕ → Bool) (v : ℕ) (l : List ℕ) → ((k : ℕ) → k < length l → t k ≡ (u k || r k)) → stamp u v (stamp r v l) ≡ stamp t v l
stamp_two t u r v l e =
    ext_get_or 0 (stamp u v (stamp r v l)) (stamp t v l) (length_stamp 0 u v (stamp r v l) ∙ length_stamp 0 r v l ∙ sym (length_stamp 0 t v l))
    (λ k h.
    let a : k < length (stamp r v l) = omega (arith, length_stamp 0 u v (stamp r v l)) in
    let b : k < length l = omega (arith, length_stamp 0 r v l) in
    get_or_stamp u v (stamp r v l) k 0 a ∙ ap (λ (x : ℕ). cond (u k) v x) (get_or_stamp r v l k 0 b) ∙ sym (or_cond (u k) (r k) v (get_or l k 0))
    ∙ ap (λ (x : Bool). cond x v (get_or l k 0)) (sym (e k b)) ∙ sym (get_or_stamp t v l k 0 b))

pub stamp_none : (t : ℕ → Bool) (v : ℕ) (l : List ℕ) → ((k : ℕ) → k < length l → t k ≡ false) → stamp t v l ≡ l
stamp_none t v l e =
    ext_get_or 0 (stamp t v l) l (length_stamp 0 t v l)
    (λ k h.
    let b : k < length l = omega (arith, length_stamp 0 t v l) in
    get_or_stamp t v l k 0 b ∙ ap (λ (x : Bool). cond x v (get_or l k 0)) (e k b))

pub stamp_same : (t u : ℕ → Bool) (v : ℕ) (l : List ℕ) → ((k : ℕ) → k < length l → t k ≡ u k) → stamp t v l ≡ stamp u v l
stamp_same t u v l e =
    ext_get_or 0 (stamp t v l) (stamp u v l) (length_stamp 0 t v l ∙ sym (length_stamp 0 u v l))
    (λ k h.
    let b : k < length l = omega (arith, length_stamp 0 t v l) in
    get_or_stamp t v l k 0 b ∙ ap (λ (x : Bool). cond x v (get_or l k 0)) (e k b) ∙ sym (get_or_stamp u v l k 0 b))

-- ---- a run

run_in : (lo hi i : ℕ) → lo ≤ i → i < hi → run lo hi i ≡ true
run_in lo hi i a b = both (le-leb lo i a) (lt-ltb i hi b)

run_of : (lo hi i : ℕ) → run lo hi i ≡ true → (lo ≤ i) × (i < hi)
run_of lo hi i e = let p = (and-eq-true_iff (leb lo i) (ltb i hi)).0 e in (leb-true lo i p.0, ltb-true i hi p.1)

-- a part of the marks once v is stored in it
filled_at : (lo n v : ℕ) (m : List ℕ) → lo + n ≤ length m → (k : ℕ) → k < length m
    → get_or (put_mid lo n m (replicate n v)) k 0 ≡ cond (run lo (lo + n) k) v (get_or m k 0)
filled_at lo n v m l k h = by_place (dec_lt k lo) (dec_lt k (lo + n))
  where
    rest : List ℕ
    rest = drop n (drop lo m)

    j : ℕ
    j = k - length (take lo m)

    front : length (take lo m) ≡ lo
    front = length-take-le lo m (omega arith)

    many : length (replicate {A = ℕ} n v) ≡ n
    many = length-replicate n v

    outside : (lo ≤ k → k < lo + n → ⊥) → get_or m k 0 ≡ cond (run lo (lo + n) k) v (get_or m k 0)
    outside q =
        ap (λ (t : Bool). cond t v (get_or m k 0))
        (sym (bool_same (run lo (lo + n) k) false (λ r. let p = run_of lo (lo + n) k r in absurd (q p.0 p.1)) (λ r. absurd (false≢true r))))

    by_place : Dec (k < lo) → Dec (k < lo + n) → get_or (take lo m ++ (replicate n v ++ rest)) k 0 ≡ cond (run lo (lo + n) k) v (get_or m k 0)
    by_place (yes q) e =
        get_or-append (take lo m) (replicate n v ++ rest) 0 k (omega (arith, front)) ∙ get_or-take lo m k 0 q ∙ outside (λ a b. absurd (omega arith))
    by_place (no q) (yes e) =
        get_or-append_right (take lo m) (replicate n v ++ rest) k 0 (omega (arith, front))
        ∙ get_or-append (replicate n v) rest 0 j (omega (arith, front, many)) ∙ get_or-replicate n j v 0 (omega (arith, front))
        ∙ ap (λ (t : Bool). cond t v (get_or m k 0)) (sym (run_in lo (lo + n) k (omega arith) e))
    by_place (no q) (no e) =
        get_or-append_right (take lo m) (replicate n v ++ rest) k 0 (omega (arith, front))
        ∙ get_or-append_right (replicate n v) rest j 0 (omega (arith, front, many))
        ∙ get_or-drop n (drop lo m) (j - length (replicate {A = ℕ} n v)) 0 ∙ get_or-drop lo m (n + (j - length (replicate {A = ℕ} n v))) 0
        ∙ ap (λ (i : ℕ). get_or m i 0) (omega (arith, front, many)) ∙ outside (λ a b. absurd (omega arith))

filled_long : (lo n v : ℕ) (m : List ℕ) → lo + n ≤ length m → length (put_mid lo n m (replicate n v)) ≡ length m
filled_long lo n v m l =
    same_len_mid lo n m (replicate n v) (length-replicate n v ∙ sym (length-take-le n (drop lo m) (omega (arith, length-drop lo m))))

-- a part that is filled: as many as there were
part_filled : (lo n v : ℕ) (m p : List ℕ) → lo + n ≤ length m → p ≡ replicate (length (take n (drop lo m))) v → p ≡ replicate n v
part_filled lo n v m p l e = e ∙ ap (λ (k : ℕ). replicate {A = ℕ} k v) (length-take-le n (drop lo m) (omega (arith, length-drop lo m)))

-- made stale
pub run_marked : (lo n hi : ℕ) (m p : List ℕ) → lo + n ≡ hi → hi ≤ length m → p ≡ replicate (length (take n (drop lo m))) 1
    → put_mid lo n m p ≡ stamp (run lo hi) 1 m
run_marked lo n hi m p e l f =
    ap (put_mid lo n m) (part_filled lo n 1 m p (omega arith) f)
    ∙ ext_get_or 0 (put_mid lo n m (replicate n 1)) (stamp (run lo hi) 1 m)
    (filled_long lo n 1 m (omega arith) ∙ sym (length_stamp 0 (run lo hi) 1 m))
    (λ k h.
    let b : k < length m = omega (arith, filled_long lo n 1 m (omega arith)) in
    filled_at lo n 1 m (omega arith) k b ∙ ap (λ (j : ℕ). cond (run lo j k) 1 (get_or m k 0)) e ∙ sym (get_or_stamp (run lo hi) 1 m k 0 b))

-- and no longer stale
pub run_cleared : (b n n' : ℕ) (m p : List ℕ) → n' ≡ n → b + n ≤ length m → p ≡ replicate (length (take n' (drop b m))) 0
    → put_mid b n' m p ≡ set_all (blocks_from b n) 0 m
run_cleared b n n' m p e l f =
    ap (put_mid b n' m) (part_filled b n' 0 m p (omega arith) f) ∙ ap (λ (k : ℕ). put_mid b k m (replicate k 0)) e
    ∙ ext_get_or 0 (put_mid b n m (replicate n 0)) (set_all (blocks_from b n) 0 m)
    (filled_long b n 0 m l ∙ sym (length_set_all (blocks_from b n) 0 m))
    (λ k h.
    let q : k < length m = omega (arith, filled_long b n 0 m l) in
    filled_at b n 0 m l k q ∙ ap (λ (t : Bool). cond t 0 (get_or m k 0)) (bool_same (run b (b + n) k) (has (blocks_from b n) k) (there k) (back k))
    ∙ sym (get_or_set_all (blocks_from b n) m k))
  where
    there : (k : ℕ) → run b (b + n) k ≡ true → has (blocks_from b n) k ≡ true
    there k r =
        let p = run_of b (b + n) k r in
        let q : b + (k - b) ≡ k = omega (arith, p.0) in
        ap (has (blocks_from b n)) (sym q) ∙ table_has n (λ j. b + j) (k - b) (omega (arith, p.1, p.0))

    back : (k : ℕ) → has (blocks_from b n) k ≡ true → run b (b + n) k ≡ true
    back k f = let q = has_table n (λ j. b + j) k f in run_in b (b + n) k (omega (arith, q.2)) (omega (arith, q.2, q.1))

-- a run from the start
pub run_start : (n : ℕ) (m : List ℕ) → n ≤ length m → stamp (run 0 n) 1 m ≡ replicate n 1 ++ drop n m
run_start n m l =
    sym (run_marked 0 n n m (replicate n 1) (omega arith) l (ap (λ (k : ℕ). replicate {A = ℕ} k 1) (sym (length-take-le n m l))))

-- ---- a box

between_in : (lo hi x : ℕ) → lo ≤ x → x ≤ hi → between lo hi x ≡ true
between_in lo hi x a b = both (le-leb lo x a) (le-leb x hi b)

record Named (w h column row side up down b : ℕ) : Type 0 where
  in_picture : b < w * h
  left : column - side ≤ b % w
  right : b % w ≤ column + side
  above : row - up ≤ b / w
  below : b / w ≤ row + down

module _ (w h column row side up down : ℕ) where
  boxed_of : (b : ℕ) → boxed w h column row side up down b ≡ true → Named w h column row side up down b
  boxed_of b e =
      let p = and_of (ltb b (w * h)) (between (column - side) (column + side) (b % w) && between (row - up) (row + down) (b / w)) e in
      let q = and_of (between (column - side) (column + side) (b % w)) (between (row - up) (row + down) (b / w)) p.1 in
      let x = and_of (leb (column - side) (b % w)) (leb (b % w) (column + side)) q.0 in
      let y = and_of (leb (row - up) (b / w)) (leb (b / w) (row + down)) q.1 in
      record {
        in_picture = ltb-true b (w * h) p.0;
        left = leb-true (column - side) (b % w) x.0;
        right = leb-true (b % w) (column + side) x.1;
        above = leb-true (row - up) (b / w) y.0;
        below = leb-true (b / w) (row + down) y.1;
      }

  boxed_in : (b : ℕ) → Named w h column row side up down b → boxed w h column row side up down b ≡ true
  boxed_in b n =
      both (lt-ltb b (w * h) n.in_picture)
      (both (between_in (column - side) (column + side) (b % w) n.left n.right)
      (between_in (row - up) (row + down) (b / w) n.above n.below))

  -- the blocks of the box from row y on
  abbrev pub from : ℕ → ℕ → Bool
  from y b = leb y (b / w) && boxed w h column row side up down b

  from_of : (y b : ℕ) → from y b ≡ true → (y ≤ b / w) × Named w h column row side up down b
  from_of y b e = let p = and_of (leb y (b / w)) (boxed w h column row side up down b) e in (leb-true y (b / w) p.0, boxed_of b p.1)

  from_in : (y b : ℕ) → y ≤ b / w → Named w h column row side up down b → from y b ≡ true
  from_in y b l n = both (le-leb y (b / w) l) (boxed_in b n)

  pub box_start : (y : ℕ) (m : List ℕ) → y ≡ row - up → stamp (from y) 1 m ≡ stamp (boxed w h column row side up down) 1 m
  box_start y m e =
      stamp_same (from y) (boxed w h column row side up down) 1 m (λ k h'. bool_same (from y k) (boxed w h column row side up down k)
      (λ q. boxed_in k (from_of y k q).1)
      (λ q. let n = boxed_of k q in from_in y k (omega arith) n))

  pub box_end : (y : ℕ) (m : List ℕ) → column < w → min (row + down + 1) h ≤ y → stamp (from y) 1 m ≡ m
  box_end y m c e =
      stamp_none (from y) 1 m (λ k h'. bool_same (from y k) false
      (λ q. let f = from_of y k q in absurd (omega (arith, row_lt w h k f.1.in_picture, f.0, f.1.below)))
      (λ q. absurd (false≢true q)))

  pub box_step : (y : ℕ) (m : List ℕ) → column < w → row - up ≤ y → y < min (row + down + 1) h
      → stamp (from (y + 1)) 1 (stamp (run (y * w + (column - side)) (y * w + min (column + side + 1) w)) 1 m) ≡ stamp (from y) 1 m
  box_step y m c a b =
      stamp_two (from y) (from (y + 1)) (run (y * w + (column - side)) (y * w + min (column + side + 1) w)) 1 m (λ k h'. bool_same (from y k)
      (from (y + 1) k || run (y * w + (column - side)) (y * w + min (column + side + 1) w) k) (there k) (back k))
    where
      there : (k : ℕ) → from y k ≡ true → (from (y + 1) k || run (y * w + (column - side)) (y * w + min (column + side + 1) w) k) ≡ true
      there k q = go (dec_lt y (k / w))
        where
          f : (y ≤ k / w) × Named w h column row side up down k
          f = from_of y k q

          go : Dec (y < k / w) → (from (y + 1) k || run (y * w + (column - side)) (y * w + min (column + side + 1) w) k) ≡ true
          go (yes l) = ap (λ (t : Bool). t || run (y * w + (column - side)) (y * w + min (column + side + 1) w) k) (from_in (y + 1) k (omega arith) f.1)
          go (no l) =
              let e : k / w ≡ y = omega (arith, f.0) in
              let at : y * w + k % w ≡ k = subst (λ (r : ℕ). r * w + k % w ≡ k) e (div-add-mod' k w) in
              let z : k % w < w = mod-lt k (omega arith) in
              ap (λ (t : Bool). from (y + 1) k || t)
              (run_in (y * w + (column - side)) (y * w + min (column + side + 1) w) k (omega (arith, f.1.left)) (omega (arith, f.1.right)))
              ∙ or-true (from (y + 1) k)

      back : (k : ℕ) → (from (y + 1) k || run (y * w + (column - side)) (y * w + min (column + side + 1) w) k) ≡ true → from y k ≡ true
      back k q = go (from (y + 1) k) refl q
        where
          go : (t : Bool) → from (y + 1) k ≡ t → (t || run (y * w + (column - side)) (y * w + min (column + side + 1) w) k) ≡ true → from y k ≡ true
          go true e r = let f = from_of (y + 1) k e in from_in y k (omega (arith, f.0)) f.1
          go false e r =
              let n = run_of (y * w + (column - side)) (y * w + min (column + side + 1) w) k r in
              let lo : y ≤ k / w = (le-div_iff_mul-le {k = w} {x = y} {y = k} (omega arith)).1 (omega (arith, n.0)) in
              let hi : k / w < y + 1 = (div-lt_iff_lt-mul {k = w} {x = k} {y = y + 1} (omega arith)).1 (omega (arith, n.1)) in
              let e' : k / w ≡ y = omega arith in
              let at : y * w + k % w ≡ k = subst (λ (r : ℕ). r * w + k % w ≡ k) e' (div-add-mod' k w) in
              let z : k % w < w = mod-lt k (omega arith) in
              let inp : y * w + k % w < w * h = block_lt z (omega arith) in
              from_in y k lo (record {
                in_picture = omega (arith, inp, at);
                left = omega (arith, n.0, at);
                right = omega (arith, n.1, at);
                above = omega arith;
                below = omega arith;
              })

-- a pixel at most s columns beside a block, d rows above and u below it: the block lies in that box round the pixel
pub in_box : (w h s u d x y bx by : ℕ) → In w h bx by s s d u x y → (between (x - s) (x + s) bx && between (y - u) (y + d) by) ≡ true
in_box w h s u d x y bx by i =
    both (between_in (x - s) (x + s) bx (omega (arith, i.right)) (omega (arith, i.left)))
    (between_in (y - u) (y + d) by (omega (arith, i.below)) (omega (arith, i.above)))
