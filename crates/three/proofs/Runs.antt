-- Blocks of a row stored side by side are these blocks drawn one after the other. Assumes nothing.
use mathlib.Core.Path.{◌≡◌, refl, sym, ap, ap₂, ◌∙◌}
use mathlib.Core.List.{List, [], ◌∷◌}
use Prim.Native.Nat.{ℕ, zero, suc, ◌+◌, ◌*◌, ◌≤◌, ◌<◌}
use native.Mathlib.Omega.{arith}
use lib.Arith.{digits_div, digits_mod}
use lib.ListN.{length, take}
use Rattle.picture.specs.Picture.{words}
use Rattle.clarity.specs.declared.Clarity.{Clarity}
use Rattle.block.specs.Block.{block_of}
use Rattle.block.proofs.Cross.{block_length}
use Rattle.block.specs.Drawn as store
use Rattle.block.specs.Store.{put_row}
use Rattle.block.specs.StoreLaws.{row_same}
use Rattle.machine.specs.Screen.{place}
use Rattle.machine.specs.Machine.{put_words, put_block, put_all}
use Rattle.machine.proofs.Lists.{table_snoc}
use Rattle.machine.proofs.Good.{length_put_all, put_all_two}
use Rattle.marks.specs.Marks.{blocks_from}
use Rattle.three.specs.Three.{draw3, screen3}
use Rattle.three.proofs.Three.{drawn_from}
use Rattle.three.proofs.Words.{block_put}

module _ (q : Clarity) (w h : ℕ) (p : List ℕ) where
  -- one block
  one_drawn : (bx by : ℕ) (out : List ℕ) → bx < w → by < h → 9 * (w * h) ≤ length out
      → store.put_block (3 * w) (place screen3 w bx by 0) (draw3 q w h p bx by) out ≡ put_block screen3 w h q p (by * w + bx) out
  one_drawn bx by out x y n =
      block_put w h bx by (draw3 q w h p bx by) out (block_length q w h (words w p) bx by) x y n
      ∙ ap₂ (λ (c r : ℕ). put_words screen3 w h c r 0 (draw3 q w h p c r) out) (sym (digits_mod by x)) (sym (digits_div by x))

  -- the first n blocks of a row
  row_drawn : (x y n : ℕ) (out : List ℕ) → x + n ≤ w → y < h → 9 * (w * h) ≤ length out
      → put_row (3 * w) (place screen3 w x y 0) n (λ i. draw3 q w h p (x + i) y) out ≡ put_all screen3 w h q p (blocks_from (y * w + x) n) out
  unfolding put_row
  row_drawn x y zero out along down long = refl
  row_drawn x y (suc n) out along down long =
      let b : ℕ = y * w + x in
      let e : place screen3 w x y 0 + n * 3 ≡ place screen3 w (x + n) y 0 = omega arith in
      let at : y * w + (x + n) ≡ b + n = omega arith in
      let o : List ℕ = put_all screen3 w h q p (blocks_from b n) out in
      ap (store.put_block (3 * w) (place screen3 w x y 0 + n * 3) (draw3 q w h p (x + n) y)) (row_drawn x y n out (omega arith) down long)
      ∙ ap (λ (i : ℕ). store.put_block (3 * w) i (draw3 q w h p (x + n) y) o) e
      ∙ one_drawn (x + n) y o (omega arith) down (omega (arith, length_put_all screen3 w h q p (blocks_from b n) out))
      ∙ ap (λ (c : ℕ). put_block screen3 w h q p c o) at
      ∙ sym (put_all_two screen3 w h q p (blocks_from b n) ((b + n) ∷ []) out)
      ∙ ap (λ (bs : List ℕ). put_all screen3 w h q p bs out) (sym (table_snoc n (λ j. b + j)))

-- n blocks from (x, y) on, drawn from a buffer whose front is the picture
pub run_drawn : (q : Clarity) (w h x y n : ℕ) (p out : List ℕ) → x + n ≤ w → y < h → 9 * (w * h) ≤ length out
    → put_row (3 * w) (place screen3 w x y 0) n (λ i. block_of q w h (words w p) (x + i) y) out
    ≡ put_all screen3 w h q (take (w * h) p) (blocks_from (y * w + x) n) out
run_drawn q w h x y n p out along down long =
    row_same (3 * w) (place screen3 w x y 0) n (λ i. draw3 q w h p (x + i) y) (λ i. draw3 q w h (take (w * h) p) (x + i) y) out
    (λ i l. drawn_from q w h p (x + i) y (omega arith) down)
    ∙ row_drawn q w h (take (w * h) p) x y n out along down long
