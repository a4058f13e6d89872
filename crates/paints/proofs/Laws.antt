-- What is gathered of a list: its items, where they are not past the limit, and always as many as it has. Assumes nothing.
use mathlib.Core.Path.{◌≡◌, refl, sym, ap, ◌∙◌}
use mathlib.Core.Bool.{Bool, cond}
use mathlib.Core.List.{List, [], ◌∷◌, ◌++◌, append-nil}
use Prim.Native.Nat.{ℕ, zero, suc, ◌+◌, ◌-◌, ◌≤◌, ◌<◌}
use native.Mathlib.Numerals.{add-one}
use native.Mathlib.Omega.{arith}
use lib.ListN.{length, get_or, take, drop, replicate, length-append, length-set, length-take, length-replicate}
use lib.Seq.{take-suc, take-suc-set, take-length, drop-cons, get_or-take}
use borrow.Author.Tests.{le-ltb}
use Rattle.paints.specs.declared.Paint.{Paint}
use Rattle.paints.specs.Paints.{blank, blanks, gathered, few_of, listed}

pub length_gathered : (items : List Paint) (m : ℕ) → length (gathered items m) ≡ 64
unfolding blanks
length_gathered items zero = length-replicate 64 blank
length_gathered items (suc m) = length-set (gathered items m) m _ ∙ length_gathered items m

first_same : (items : List Paint) (m : ℕ) → m ≤ length items → m ≤ 64 → take m (gathered items m) ≡ take m items
first_same items zero h k = refl
first_same items (suc m) h k =
    take-suc-set (gathered items m) m (get_or items m blank) (omega (arith, length_gathered items m))
    ∙ ap (λ (l : List Paint). l ++ (get_or items m blank ∷ [])) (first_same items m (omega arith) (omega arith))
    ∙ sym (take-suc items m blank (omega arith))

-- ---- the list that an array of 64 stands for

pub length_listed : (n : ℕ) (a : List Paint) → length a ≡ 64 → length (listed n a) ≡ n
length_listed n a e = length-append (take n a) (replicate (n - 64) blank) ∙ simp (length-take, length-replicate) (omega (arith, e))

pub listed_few : (n : ℕ) (a : List Paint) → n ≤ 64 → listed n a ≡ take n a
listed_few n a l =
    let none : n - 64 ≡ 0 = omega arith in
    ap (λ (k : ℕ). take n a ++ replicate k blank) none ∙ append-nil (take n a)

pub listed_gathered : (items : List Paint) → length items ≤ 64 → listed (length items) (gathered items (few_of (length items))) ≡ items
listed_gathered items l =
    listed_few (length items) (gathered items (few_of (length items))) l
    ∙ ap (λ (b : Bool). take (length items) (gathered items (cond b 64 (length items)))) (le-ltb 64 (length items) l)
    ∙ first_same items (length items) (omega arith) l
    ∙ take-length items

-- ---- the first n items of an array, one by one

pub next_item : (a : List Paint) (n i : ℕ) (d : Paint) → i < n → n ≤ length a → drop i (take n a) ≡ get_or a i d ∷ drop (i + 1) (take n a)
next_item a n i d l k =
    let t = take n a in
    drop-cons t i d (simp length-take (omega arith))
    ∙ ap (λ (p : Paint). p ∷ drop (suc i) t) (get_or-take n a i d l)
    ∙ ap (λ (j : ℕ). get_or a i d ∷ drop j t) (sym (add-one i))

-- ---- a list from item i on: item i, and then those behind it

pub turn : (items : List Paint) (i : ℕ) → i < length items → drop i items ≡ get_or items i blank ∷ drop (i + 1) items
turn items i l = drop-cons items i blank l ∙ ap (λ (k : ℕ). get_or items i blank ∷ drop k items) (sym (add-one i))
