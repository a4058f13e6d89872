-- A write to a part of a slice, as a write to the slice. Assumes nothing.
use mathlib.Core.Path.{◌≡◌, ◌∙◌, ap}
use mathlib.Core.List.{List, [], ◌∷◌, ◌++◌, append-nil}
use Prim.Native.Nat.{ℕ, ◌+◌, ◌-◌, ◌≤◌}
use native.Mathlib.Omega.{arith}
use lib.ListN.{length, take, drop, replicate, length-drop}
use lib.Seq.{drop-drop}
use Rattle.std.proofs.lemmas.List.{take_rest, drop_all}
use borrow.Rule.Slice.PartMut.{put_mid, mid_of, post_of, mid_len}
use Rattle.picture.specs.Fill.{put}

module _ {A : Type 0} where
  part_over : (a k : ℕ) (vs l : List A) → length vs ≡ k → put_mid a k l vs ≡ put a vs l
  unfolding put
  part_over a k vs l e =
      ap (λ (q : List A). take a l ++ (vs ++ q)) (drop-drop k a l ∙ ap (λ (n : ℕ). drop n l) (omega arith))

  -- three elements filled
  pub three_filled : (a e : ℕ) (v : A) (vs l : List A) → e ≡ a + 3 → e ≤ length l → vs ≡ replicate (length (mid_of a (e - a) l)) v
      → put_mid a (e - a) l vs ≡ put a (v ∷ v ∷ v ∷ []) l
  three_filled a e v vs l ee room h =
      let long : length (mid_of a (e - a) l) ≡ 3 = mid_len a e l room ∙ omega (arith, ee) in
      let k : vs ≡ v ∷ v ∷ v ∷ [] = h ∙ ap (λ (n : ℕ). replicate n v) long in
      part_over a (e - a) vs l (ap length k ∙ omega (arith, ee)) ∙ ap (λ (q : List A). put a q l) k

  -- the front of what is there from the place a on
  part_front : (a : ℕ) (vs l : List A) → put_mid a (length l - a) l (put 0 vs (mid_of a (length l - a) l)) ≡ put a vs l
  unfolding put
  part_front a vs l =
      let m = mid_of a (length l - a) l in
      let e : drop (length vs) m ≡ drop (a + length vs) l = ap (drop (length vs)) (take_rest l a) ∙ drop-drop (length vs) a l in
      let z : post_of a (length l - a) l ≡ [] = drop_all (length l - a) (drop a l) (omega (arith, length-drop a l)) in
      let i : 0 + length vs ≡ length vs = omega arith in
      ap (λ (n : ℕ). take a l ++ ((vs ++ drop n m) ++ post_of a (length l - a) l)) i
      ∙ ap (λ (q : List A). take a l ++ ((vs ++ drop (length vs) m) ++ q)) z
      ∙ ap (λ (q : List A). take a l ++ q) (append-nil (vs ++ drop (length vs) m))
      ∙ ap (λ (q : List A). take a l ++ (vs ++ q)) e

  -- a part that was written over at its front
  pub part_put : (a : ℕ) (vs l l' : List A) → l' ≡ put 0 vs (mid_of a (length l - a) l) → put_mid a (length l - a) l l' ≡ put a vs l
  part_put a vs l l' e = ap (put_mid a (length l - a) l) e ∙ part_front a vs l
