-- Whole steps without a stale mark at the front of the marks. Assumes nothing.
use mathlib.Core.Path.{◌≡◌, sym, ap, ◌∙◌}
use mathlib.Core.List.{List, [], map}
use Prim.Native.Nat.{ℕ, zero, suc, ◌-◌, ◌*◌, ◌≤◌}
use native.Mathlib.Nat.{mul-zero, mul-suc, mul-le-mul_left}
use native.Mathlib.Omega.{arith}
use lib.Dec.{eqb}
use lib.ListN.{length, get_or, take, drop}
use borrow.Author.Tests.{eqb-true}
use Rattle.std.specs.List.{prefix_len}
use Rattle.std.specs.Simd.{first_chunks}
use Rattle.std.proofs.lemmas.Slice.{between_is}
use Rattle.std.proofs.lemmas.List.Sums.{prefix_len_passes, prefix_len-le-length}
use Rattle.machine.specs.Lists.{count}
use Rattle.machine.specs.Calls.{is_stale}
use Rattle.marks.specs.Marks.{stale_in, ClearRun, ClearUpTo}
use Rattle.marks.proofs.Counts.{piece, none_clear}
use Rattle.marks.proofs.Parts.{run_two}

module _ (n c : ℕ) (m : List ℕ) (steps : List (List ℕ)) (are : steps ≡ first_chunks n c m) (many : length steps ≡ c) (room : n * c ≤ length m) where
  abbrev clear : ℕ
  clear = prefix_len (λ step. eqb (count (map is_stale step)) 0) steps

  -- the first i of them
  first_clear : (i : ℕ) → i ≤ clear → ClearRun 0 (n * i) m
  first_clear zero l = λ b lo hi. absurd (omega (arith, mul-zero n))
  first_clear (suc i) l =
      run_two m 0 (n * i) (n * suc i) (first_clear i (omega arith)) (none_clear (n * i) (n * suc i) m none (omega (arith, end)))
    where
      below : suc i ≤ c
      below = omega (arith, prefix_len-le-length (λ (step : List ℕ). eqb (count (map is_stale step)) 0) steps)

      end : n * suc i ≤ n * c
      end = mul-le-mul_left n below

      wide : n * suc i - n * i ≡ n
      wide = omega (arith, mul-suc n i)

      none : count (stale_in (n * i) (n * suc i) m) ≡ 0
      none =
          ap (λ (l : List ℕ). count (map is_stale l))
          (sym (between_is m (n * i) (n * suc i)) ∙ ap (λ (k : ℕ). take k (drop (n * i) m)) wide
          ∙ sym (ap (λ (l : List (List ℕ)). get_or l i []) are ∙ piece n c i m [] (omega (arith, below))))
          ∙ eqb-true _ 0 (prefix_len_passes (λ (step : List ℕ). eqb (count (map is_stale step)) 0) steps i [] (omega arith))

  pub steps_clear : ClearUpTo 0 (length m) m (n * clear)
  steps_clear = record {
    from = omega arith;
    to =
        let l : clear ≤ c = omega (arith, prefix_len-le-length (λ (step : List ℕ). eqb (count (map is_stale step)) 0) steps) in
        omega (arith, mul-le-mul_left n l);
    clear = first_clear clear (omega arith);
  }
