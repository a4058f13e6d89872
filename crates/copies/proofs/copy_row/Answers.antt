-- `copies::copy_row` meets its contract: the invariant says that the words of the first i fours stand, three times each. Assumes nothing.
use native.Mathlib.Omega.{arith}
use mathlib.Core.Path.{◌≡◌, refl, sym, ◌∙◌, ap, subst}
use mathlib.Core.List.{List, [], ◌∷◌}
use Prim.Native.Nat.{ℕ, zero, suc, ◌+◌, ◌-◌, ◌*◌, ◌/◌, ◌<◌}
use lib.ListN.{length, get_or, drop, length-drop}
use lib.Seq.{get_or-drop}
use borrow.Rule.Slice.PartMut.{put_mid}
use Rattle.std.specs.Simd.{first_chunks}
use Rattle.picture.specs.Fill.{Filled, add_one_mul, fill_none, fill_done}
use Rattle.copies.proofs.Runs.{copies, copies_more, chunk_word}
use Rattle.copies.proofs.copy_row.Goals as goal

pub loop-i-init : goal.loop-i-init
loop-i-init c = fill_none 0 3 (copies c.args.words.now) c.args.out.now (omega arith)

-- the words of four i are the next ones
abbrev four : List (List ℕ) → ℕ → List ℕ
four fours i = let f = get_or fours i [] in get_or f 0 0 ∷ get_or f 1 0 ∷ get_or f 2 0 ∷ get_or f 3 0 ∷ []

four_same : (words : List ℕ) (fours : List (List ℕ)) (k i : ℕ) → fours ≡ first_chunks 4 k words → i < k → (j : ℕ) → j < 4
    → get_or (four fours i) j 0 ≡ get_or words (i * 4 + j) 0
four_same words fours k i e hi zero hj = ap (λ (l : List (List ℕ)). get_or (get_or l i []) 0 0) e ∙ chunk_word 4 k words i 0 hi hj
four_same words fours k i e hi (suc zero) hj = ap (λ (l : List (List ℕ)). get_or (get_or l i []) 1 0) e ∙ chunk_word 4 k words i 1 hi hj
four_same words fours k i e hi (suc (suc zero)) hj = ap (λ (l : List (List ℕ)). get_or (get_or l i []) 2 0) e ∙ chunk_word 4 k words i 2 hi hj
four_same words fours k i e hi (suc (suc (suc zero))) hj = ap (λ (l : List (List ℕ)). get_or (get_or l i []) 3 0) e ∙ chunk_word 4 k words i 3 hi hj
four_same words fours k i e hi (suc (suc (suc (suc j)))) hj = absurd (omega arith)

pub loop-i-preserved : goal.loop-i-preserved
loop-i-preserved c =
    let s = c.loop-i in
    let a = c.args in
    let r = c.as_chunks.ensures in
    subst (λ (n : ℕ). Filled 0 3 n (copies a.words.now) a.out.now (put_mid (12 * s.i) (length s.out - 12 * s.i) s.out c.copy_words.new.out))
    (sym (add_one_mul s.i 4))
    (copies_more a.words.now (four c.as_chunks.result.0.now s.i) (s.i * 4) 4 (12 * s.i) a.out.now s.out _ (omega (arith, r.front_len)) refl
    (four_same a.words.now c.as_chunks.result.0.now (length a.words.now / 4) s.i r.front (omega (arith, r.front_len))) s.invariant (omega arith)
    c.copy_words.ensures)

pub returns : goal.returns
returns c =
    let s = c.loop-i in
    let a = c.args in
    let r = c.as_chunks.ensures in
    let n : s.i ≡ length a.words.now / 4 = omega (arith, r.front_len) in
    let rest = drop (length a.words.now / 4 * 4) a.words.now in
    fill_done 0 3 (s.i * 4 + length rest) (length a.words.now) (copies a.words.now) a.out.now _
    (copies_more a.words.now c.as_chunks.result.1.now (s.i * 4) (length rest) (12 * length c.as_chunks.result.0.now) a.out.now s.out _
    (omega (arith, length-drop (length a.words.now / 4 * 4) a.words.now)) (ap length (sym r.back))
    (λ j h. ap (λ (l : List ℕ). get_or l j 0) r.back ∙ get_or-drop (length a.words.now / 4 * 4) a.words.now j 0
    ∙ ap (λ (m : ℕ). get_or a.words.now (m * 4 + j) 0) (sym n)) s.invariant (omega (arith, n, r.front_len)) c.copy_words-2.ensures)
    (omega (arith, n, length-drop (length a.words.now / 4 * 4) a.words.now))
