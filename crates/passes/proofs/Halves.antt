-- A list that is split at a cut, each part written over from its front on: the parts joined are the list written over at both places.
-- Assumes nothing.
use Rattle.std.proofs.Common.{◌≡◌, ℕ, ◌+◌, ◌-◌, ◌≤◌, List, ◌++◌, length, take, drop, sym, ap, ◌∙◌, take-append-drop, length-take-le, arith}
use Rattle.std.proofs.Math.Path.{ap₂}
use Rattle.std.proofs.Math.Seq.{take-append-add, drop-append-add, drop_at, drop-drop}
use Rattle.std.proofs.lemmas.List.{drop-take}
use Rattle.picture.specs.Fill.{put, take_put, length_put}

-- p and q are the parts of l at the cut
pub record Halves {A : Type 0} (cut : ℕ) (l p q : List A) : Type 0 where
  pub front_is : p ≡ take cut l
  pub back_is : q ≡ drop cut l
  pub whole_is : p ++ q ≡ l

module _ {A : Type 0} (cut : ℕ) (us l : List A) (room : length us ≤ cut) (fits : cut ≤ length l) where
  -- what is written over before the cut
  take_front : put 0 us (take cut l) ≡ take cut (put 0 us l)
  unfolding put
  take_front =
      let m = cut - length us in
      let n = 0 + length us in
      let e : cut ≡ n + m = omega arith in
      let z : length us + m ≡ cut = omega arith in
      ap (λ (k : ℕ). us ++ drop n (take k l)) e
      ∙ ap (λ (x : List A). us ++ x) (drop-take n m l)
      ∙ sym (take-append-add us (drop n l) m)
      ∙ ap (λ (k : ℕ). take k (us ++ drop n l)) z

  -- leaves what stands after it
  drop_front : drop cut (put 0 us l) ≡ drop cut l
  unfolding put
  drop_front =
      let m = cut - length us in
      let n = 0 + length us in
      let e : cut ≡ length us + m = omega arith in
      let z : n + m ≡ cut = omega arith in
      ap (λ (k : ℕ). drop k (us ++ drop n l)) e
      ∙ drop-append-add us (drop n l) m
      ∙ drop-drop m n l
      ∙ ap (λ (k : ℕ). drop k l) z

  drop_back : (vs : List A) → cut ≤ length (put 0 us l) → put 0 vs (drop cut (put 0 us l)) ≡ drop cut (put cut vs (put 0 us l))
  unfolding put
  drop_back vs h =
      let w = put 0 us l in
      let n : length (take cut w) ≡ cut = length-take-le cut w h in
      let z : cut + (0 + length vs) ≡ cut + length vs = omega arith in
      ap (λ (x : List A). vs ++ x) (drop-drop (0 + length vs) cut w ∙ ap (λ (k : ℕ). drop k w) z)
      ∙ sym (drop_at (take cut w) (vs ++ drop (cut + length vs) w) cut n)

  -- the front as the whole list has it
  pub front : (p p' : List A) → p ≡ take cut l → p' ≡ put 0 us p → p' ≡ take cut (put 0 us l)
  front p p' ep e = e ∙ ap (put 0 us) ep ∙ take_front

  pub halves : (vs p q p' q' : List A) → p ≡ take cut l → q ≡ drop cut l → p' ≡ put 0 us p → q' ≡ put 0 vs q
      → Halves cut (put cut vs (put 0 us l)) p' q'
  halves vs p q p' q' ep eq e d =
      let long : cut ≤ length (put 0 us l) = omega (arith, length_put 0 us l (omega arith)) in
      let before = front p p' ep e ∙ sym (take_put cut cut vs (put 0 us l) (omega arith) long) in
      let after = d ∙ ap (put 0 vs) (eq ∙ sym drop_front) ∙ drop_back vs long in
      record {
        front_is = before;
        back_is = after;
        whole_is = ap₂ {C = List A} ◌++◌ before after ∙ take-append-drop cut (put cut vs (put 0 us l));
      }
