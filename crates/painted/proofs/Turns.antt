-- The items of a list at their turns: item i is not refused, and after it those behind it are left. Assumes nothing.
use mathlib.Core.Path.{◌≡◌, sym, subst}
use mathlib.Core.List.{List}
use Prim.Native.Nat.{ℕ, ◌+◌, ◌<◌}
use native.Mathlib.Omega.{arith}
use lib.ListN.{length, get_or, take, drop}
use lib.Seq.{take-length}
use Rattle.header.specs.declared.Header.{Header}
use Rattle.paints.specs.declared.Paint.{Paint}
use Rattle.paints.specs.Paints.{blank}
use Rattle.machine.specs.Screen.{Screen}
use Rattle.machine.specs.Calls.{refusal_paint}
use Rattle.machine.specs.Items.{StoresWord}
use Rattle.machine.proofs.ListEnds.{Rest, rest_word, rest_next}

module _ (S : Screen) (header : Header) (items : List Paint) (i : ℕ) (l : i < length items) (p m p₁ m₁ : List ℕ)
    (r : Rest S header (drop i items) p m p₁ m₁) where
  abbrev x : Paint
  x = get_or items i blank

  as_taken : Rest S header (drop i (take (length items) items)) p m p₁ m₁
  as_taken = subst (λ (t : List Paint). Rest S header (drop i t) p m p₁ m₁) (sym (take-length items)) r

  pub turn_word : refusal_paint S.side header p (length m) x.column x.row x.word ≡ 0
  turn_word = rest_word S header items (length items) i l (omega arith) p m p₁ m₁ as_taken

  pub turn_next : (p' m' : List ℕ) (c : ℕ) → StoresWord S header p m x.column x.row x.word p' m' c
      → (length p' ≡ length p) × ((length m' ≡ length m) × Rest S header (drop (i + 1) items) p' m' p₁ m₁)
  turn_next p' m' c q =
      let t = rest_next S header items (length items) i l (omega arith) p m p₁ m₁ as_taken p' m' c q in
      (t.0, (t.1.0, subst (λ (t : List Paint). Rest S header (drop (i + 1) t) p' m' p₁ m₁) (take-length items) t.1.1))
