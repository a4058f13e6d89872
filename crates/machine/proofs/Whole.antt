-- The picture enlarged whole, as a list: what has every word of every block in its place is that. Assumes nothing.
use mathlib.Core.Path.{◌≡◌, sym, ap, ◌∙◌}
use mathlib.Core.Bool.{Bool, cond}
use mathlib.Core.List.{List}
use Prim.Native.Nat.{ℕ, ◌*◌, ◌/◌, ◌%◌, ◌<◌}
use native.Mathlib.Omega.{arith}
use lib.ListN.{length, get_or, replicate, length-replicate}
use lib.Seq.{ext_get_or}
use Rattle.clarity.specs.declared.Clarity.{Clarity}
use Rattle.machine.specs.Lists.{table}
use Rattle.machine.specs.Screen.{Screen, Lawful, block_words}
use Rattle.machine.specs.Demand3.{whole}
use Rattle.machine.proofs.Places.{spot_onto}
use Rattle.machine.proofs.Good.{spot_of, length_put_all}
use Rattle.machine.proofs.Order.{table_has, has_table, below_of, get_or_put_all}

module _ (S : Screen) (L : Lawful S) (q : Clarity) (w h : ℕ) (p l : List ℕ) (full : length l ≡ block_words S * (w * h))
    (same : (b k : ℕ) → b < w * h → k < block_words S → get_or (S.draw q w h p (b % w) (b / w)) k 0 ≡ get_or l (spot_of S w h b k) 0) where
  long : length (whole S w h q p) ≡ block_words S * (w * h)
  long = length_put_all S w h q p (table (w * h) (λ b. b)) (replicate (block_words S * (w * h)) 0) ∙ length-replicate {A = ℕ} (block_words S * (w * h)) 0

  -- word k of block b
  word : (b k : ℕ) → b < w * h → k < block_words S → get_or (whole S w h q p) (spot_of S w h b k) 0 ≡ get_or l (spot_of S w h b k) 0
  word b k lb lk =
      get_or_put_all S L w h q p (table (w * h) (λ b. b)) (replicate (block_words S * (w * h)) 0) b k
      (below_of (w * h) (table (w * h) (λ b. b)) (λ i e. let j = has_table (w * h) (λ b. b) i e in omega (arith, j.1, j.2)))
      (omega (arith, length-replicate {A = ℕ} (block_words S * (w * h)) 0)) lb lk
      ∙ ap (λ (t : Bool). cond t (get_or (S.draw q w h p (b % w) (b / w)) k 0) (get_or (replicate (block_words S * (w * h)) 0) (spot_of S w h b k) 0))
      (table_has (w * h) (λ b. b) b lb)
      ∙ same b k lb lk

  pub whole_is : whole S w h q p ≡ l
  whole_is =
      ext_get_or 0 (whole S w h q p) l (long ∙ sym full) (λ i m.
      let o = spot_onto S.scale w L.scaled h i (omega (arith, long)) in
      ap (λ (n : ℕ). get_or (whole S w h q p) n 0) (sym o.4) ∙ word o.0 o.1 o.2 o.3 ∙ ap (λ (n : ℕ). get_or l n 0) o.4)
