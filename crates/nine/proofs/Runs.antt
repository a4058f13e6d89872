-- Blocks of a row, stored as three rows of blocks of the second pass, are these blocks drawn one after the other. Assumes nothing.
use mathlib.Core.Path.{◌≡◌, refl, sym, ap, ap₂, ◌∙◌}
use mathlib.Core.Bool.{Bool, true, false, cond, true≢false}
use mathlib.Core.List.{List}
use Prim.Native.Nat.{ℕ, ◌+◌, ◌*◌, ◌/◌, ◌%◌, ◌≤◌, ◌<◌}
use native.Mathlib.Nat.{add-mul, mul_assoc, mul_left_comm, mul_comm, div-add-mod'}
use native.Mathlib.Decide.{dec_lt}
use native.Mathlib.Omega.{arith}
use lib.Arith.{digits_lt, digits_div, digits_mod}
use lib.ListN.{length, get_or, take}
use lib.Seq.{ext_get_or}
use Rattle.picture.specs.Picture.{words}
use Rattle.clarity.specs.declared.Clarity.{Clarity}
use Rattle.block.specs.Block.{block_of}
use Rattle.block.specs.Store.{put_rect}
use Rattle.block.specs.StoreLaws.{rect_long}
use Rattle.block.specs.Placed.{lines, rect_at, rect_other}
use Rattle.machine.specs.Lists.{has}
use Rattle.machine.specs.Screen.{place}
use Rattle.machine.specs.Machine.{put_all}
use Rattle.machine.proofs.Lists.{Below, get_or_table}
use Rattle.machine.proofs.Places.{digits_same, column_lt, block_lt, row_end, spot_onto}
use Rattle.machine.proofs.Good.{length_put_all}
use Rattle.machine.proofs.Order.{table_has, has_table, below_of, get_or_put_all, put_all_past}
use Rattle.marks.specs.Marks.{blocks_from}
use Rattle.nine.specs.Nine.{enlarged, enlarged_twice, draw9, screen9}
use Rattle.nine.proofs.Nine.{enlarged_at, lawful9, drawn_from9}

module _ (q : Clarity) (w h x y n : ℕ) (p out : List ℕ) (along : x + n ≤ w) (down : y < h) (long : 81 * (w * h) ≤ length out) where
  abbrev ow : ℕ
  ow = 9 * w

  -- where the first word of the first block lies
  abbrev at : ℕ
  at = place screen9 w x y 0

  abbrev second : ℕ → ℕ → List ℕ
  second i j = block_of q (3 * w) (3 * h) (enlarged q w h (words w p)) (3 * x + i) (3 * y + j)

  abbrev drawn : List ℕ
  drawn = put_rect ow at (3 * n) 3 second out

  abbrev bs : List ℕ
  bs = blocks_from (y * w + x) n

  at_is : at ≡ 9 * y * ow + 9 * x
  at_is = omega (arith, add-mul (9 * y) 0 ow)

  enough : at + 3 * (3 * ow) + 3 * n * 3 ≤ length out + ow
  enough =
      let e : 9 * y * ow ≡ 81 * (y * w) = simp (mul_assoc, mul_left_comm, mul_comm) (omega arith) in
      omega (arith, at_is, e, row_end w h y down)

  -- word k of block (x + i, y)
  word_in : (i k : ℕ) → i < n → k < 81 → get_or drawn (place screen9 w (x + i) y k) 0 ≡ get_or (draw9 q w h p (x + i) y) k 0
  unfolding enlarged_twice
  word_in i k hi hk =
      let c : ℕ = 9 * i + k % 9 in
      let r : ℕ = k / 9 in
      let e : place screen9 w (x + i) y k ≡ at + r * ow + c = omega (arith, add-mul (9 * y) (k / 9) ow, add-mul (9 * y) 0 ow) in
      let ex : 3 * (3 * x) + c ≡ 9 * (x + i) + k % 9 = omega arith in
      let ey : 3 * (3 * y) + r ≡ 9 * y + k / 9 = omega arith in
      ap (λ (m : ℕ). get_or drawn m 0) e
      ∙ rect_at ow at (3 * n) second out 3 c r enough (omega arith) (omega arith) (omega arith)
      ∙ sym (enlarged_at q (3 * w) (3 * h) (enlarged q w h (words w p)) (3 * x) (3 * y) c r)
      ∙ ap₂ {C = ℕ} (enlarged q (3 * w) (3 * h) (enlarged q w h (words w p))) ex ey
      ∙ sym (get_or_table 81 (λ k. enlarged_twice q w h (words w p) (9 * (x + i) + k % 9) (9 * y + k / 9)) k 0 hk)

  -- a word that is stored is one of these blocks'
  back_to : (b k i j r c : ℕ) → b < w * h → k < 81 → i < 3 * n → j < 3 → r < 3 → c < 3
      → place screen9 w (b % w) (b / w) k ≡ at + j * (3 * ow) + i * 3 + c + r * ow → has bs b ≡ true
  back_to b k i j r c hb hk hi hj hr hc e =
      let bc : b % w < w = column_lt w h b hb in
      let d = digits_same (9 * (b / w) + k / 9) (9 * y + (3 * j + r)) ow (9 * (b % w) + k % 9) (9 * x + (i * 3 + c))
      (omega arith) (omega arith) (e ∙ omega (arith, at_is, lines (9 * y) j r ow)) in
      let ey : b / w ≡ y = omega (arith, d.0) in
      let ex : b % w ≡ x + i / 3 = omega (arith, d.1) in
      let eb : b ≡ y * w + x + i / 3 = omega (arith, div-add-mod' b w, ap (λ (m : ℕ). m * w) ey) in
      ap (has bs) eb ∙ table_has n (λ j. y * w + x + j) (i / 3) (omega arith)

  -- and lies within the output of the picture
  within_output : (m i j r c : ℕ) → i < 3 * n → j < 3 → r < 3 → c < 3 → m ≡ at + j * (3 * ow) + i * 3 + c + r * ow → 81 * (w * h) ≤ m → ⊥
  within_output m i j r c hi hj hr hc e far =
      let a : 9 * y + (3 * j + r) < 9 * h = omega arith in
      let b : 9 * x + (i * 3 + c) < 9 * w = omega arith in
      let z : 9 * h * ow ≡ 81 * (w * h) = simp (mul_assoc, mul_left_comm, mul_comm) (omega arith) in
      omega (arith, digits_lt a b, z, at_is, lines (9 * y) j r ow)

  below : Below (w * h) bs
  below = below_of (w * h) bs (λ b e.
      let t = has_table n (λ j. y * w + x + j) b e in
      let c : x + t.0 < w = omega (arith, t.1) in
      omega (arith, t.2, block_lt c down))

  -- n blocks from (x, y) on, stored from a buffer whose front is the picture
  pub run_drawn9 : put_rect (9 * w) (place screen9 w x y 0) (3 * n) 3
      (λ i j. block_of q (3 * w) (3 * h) (enlarged q w h (words w p)) (3 * x + i) (3 * y + j)) out
      ≡ put_all screen9 w h q (take (w * h) p) (blocks_from (y * w + x) n) out
  run_drawn9 =
      ext_get_or 0 drawn (put_all screen9 w h q (take (w * h) p) bs out)
      (rect_long ow at (3 * n) second out 3 enough ∙ sym (length_put_all screen9 w h q (take (w * h) p) bs out))
      (λ i l. by_place i (dec_lt i (81 * (w * h))))
    where
      -- word k of block b, whether it is one of these or not
      at_word : (b k : ℕ) → b < w * h → k < 81 → (t : Bool) → has bs b ≡ t
          → get_or drawn (place screen9 w (b % w) (b / w) k) 0
          ≡ cond t (get_or (draw9 q w h (take (w * h) p) (b % w) (b / w)) k 0) (get_or out (place screen9 w (b % w) (b / w) k) 0)
      at_word b k hb hk true e =
          let t = has_table n (λ j. y * w + x + j) b e in
          let i : ℕ = t.0 in
          let ci : x + i < w = omega (arith, t.1) in
          let eb : b ≡ y * w + (x + i) = omega (arith, t.2) in
          let ex : b % w ≡ x + i = ap (λ (m : ℕ). m % w) eb ∙ digits_mod y ci in
          let ey : b / w ≡ y = ap (λ (m : ℕ). m / w) eb ∙ digits_div y ci in
          ap₂ (λ (s t : ℕ). get_or drawn (place screen9 w s t k) 0) ex ey
          ∙ word_in i k t.1 hk
          ∙ ap (λ (l : List ℕ). get_or l k 0) (drawn_from9 q w h p (x + i) y ci down)
          ∙ ap₂ (λ (s t : ℕ). get_or (draw9 q w h (take (w * h) p) s t) k 0) (sym ex) (sym ey)
      at_word b k hb hk false e =
          rect_other ow at (3 * n) second out (place screen9 w (b % w) (b / w) k) 3 enough
          (λ i j r c hi hj hr hc z. true≢false (sym (back_to b k i j r c hb hk hi hj hr hc z) ∙ e))

      by_place : (i : ℕ) → Dec (i < 81 * (w * h)) → get_or drawn i 0 ≡ get_or (put_all screen9 w h q (take (w * h) p) bs out) i 0
      by_place i (yes l) =
          let o = spot_onto 9 w lawful9.scaled h i l in
          ap (λ (m : ℕ). get_or drawn m 0) (sym o.4)
          ∙ at_word o.0 o.1 o.2 o.3 (has bs o.0) refl
          ∙ sym (get_or_put_all screen9 lawful9 w h q (take (w * h) p) bs out o.0 o.1 below long o.2 o.3)
          ∙ ap (λ (m : ℕ). get_or (put_all screen9 w h q (take (w * h) p) bs out) m 0) o.4
      by_place i (no l) =
          rect_other ow at (3 * n) second out i 3 enough (λ a b c d ha hb hc hd z. within_output i a b c d ha hb hc hd z (omega arith))
          ∙ sym (put_all_past screen9 lawful9 w h q (take (w * h) p) bs out i below (omega arith))
