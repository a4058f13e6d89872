-- The nine-times screen is lawful, by the locality of section 6 taken twice, and draws from no word past the picture. Assumes nothing.
use mathlib.Core.Path.{◌≡◌, refl, ap, ◌∙◌}
use mathlib.Core.List.{List}
use Prim.Native.Nat.{ℕ, ◌+◌, ◌*◌, ◌/◌, ◌%◌, ◌<◌}
use native.Mathlib.Omega.{arith}
use lib.ListN.{get_or, take}
use Rattle.picture.specs.Picture.{words}
use Rattle.picture.specs.Local.{Agree}
use Rattle.clarity.specs.declared.Clarity.{Clarity}
use Rattle.clarity.specs.Clarity.{plainly}
use Rattle.block.specs.Block.{block_of}
use Rattle.block.specs.Claims.{PixelOf}
use Rattle.block.proofs.Theorem.{block_laws}
use Rattle.block.proofs.Cross.{cross}
use Rattle.block.proofs.Standard.{block_settings}
use Rattle.machine.specs.Lists.{table}
use Rattle.machine.specs.Screen.{Lawful}
use Rattle.machine.proofs.Lists.{table_same, get_or_table}
use Rattle.machine.proofs.Places.{front}
use Rattle.marks.proofs.Box.{in_box}
use Rattle.nine.specs.Nine.{enlarged, enlarged_twice, draw9, screen9}
use Rattle.nine.specs.Claims.{BlockLaws9}

-- the word c columns and r rows from the first word of block (x, y) on
pub enlarged_at : (q : Clarity) (w h : ℕ) (f : ℕ → ℕ → ℕ) (x y c r : ℕ)
    → enlarged q w h f (3 * x + c) (3 * y + r) ≡ get_or (block_of q w h f (x + c / 3) (y + r / 3)) (3 * (r % 3) + c % 3) 0
unfolding enlarged
enlarged_at q w h f x y c r =
    let ex : (3 * x + c) / 3 ≡ x + c / 3 = omega arith in
    let ey : (3 * y + r) / 3 ≡ y + r / 3 = omega arith in
    let ec : (3 * x + c) % 3 ≡ c % 3 = omega arith in
    let er : (3 * y + r) % 3 ≡ r % 3 = omega arith in
    rw (ex, ey, ec, er)

-- ---- what a block depends on

-- the word (X, Y) of what comes out depends on no pixel but those of the box round its block
pub word_local : (q : Clarity) (w h : ℕ) (f g : ℕ → ℕ → ℕ) (X Y : ℕ) → X < 3 * w → Y < 3 * h → Agree w h (X / 3) (Y / 3) 6 6 6 5 f g
    → enlarged q w h f X Y ≡ enlarged q w h g X Y
unfolding enlarged
word_local q w h f g X Y hx hy e =
    ap (λ (b : List ℕ). get_or b (3 * (Y % 3) + X % 3) 0)
    (cross q w h f g (X / 3) (Y / 3) (omega arith) (omega arith)
    (λ x y i.
    e x y (record { on_x = i.on_x; on_y = i.on_y; left = omega arith; right = omega arith; above = omega arith; below = omega arith }))
    (λ x y i.
    e x y (record { on_x = i.on_x; on_y = i.on_y; left = omega arith; right = omega arith; above = omega arith; below = omega arith })))

-- a word of block (bx, by) depends on no pixel outside columns bx - 8 to bx + 8 and rows by - 8 to by + 7: it depends on words of the first
-- result in the blocks at most two beside this one, above it or below it, and these on the pixels six columns to each side of their blocks,
-- six rows up and five down
pub twice_local : (q : Clarity) (w h : ℕ) (f g : ℕ → ℕ → ℕ) (bx by : ℕ) → bx < w → by < h → Agree w h bx by 8 8 8 7 f g
    → (c r : ℕ) → c < 9 → r < 9
    → enlarged_twice q w h f (9 * bx + c) (9 * by + r) ≡ enlarged_twice q w h g (9 * bx + c) (9 * by + r)
unfolding enlarged_twice
twice_local q w h f g bx by hx hy e c r hc hr =
    word_local _ _ _ (enlarged q w h f) (enlarged q w h g) (9 * bx + c) (9 * by + r) (omega arith) (omega arith)
    (λ X Y n.
    word_local q w h f g X Y (omega (arith, n.on_x)) (omega (arith, n.on_y))
    (λ x y m.
    e x y (record { on_x = m.on_x; on_y = m.on_y; left = omega arith; right = omega arith; above = omega arith; below = omega arith })))

-- so the whole block
pub box9_local : (q : Clarity) (w h : ℕ) (p r : List ℕ) (bx by : ℕ) → bx < w → by < h → Agree w h bx by 8 8 8 7 (words w p) (words w r)
    → draw9 q w h p bx by ≡ draw9 q w h r bx by
box9_local q w h p r bx by hx hy e =
    table_same 81 _ _ (λ k hk. twice_local q w h (words w p) (words w r) bx by hx hy e (k % 9) (k / 9) (omega arith) (omega arith))

-- ---- every word is one of the picture's

-- a word of what comes out stands at a place of the picture
enlarged_pixel : (q : Clarity) (w h : ℕ) (f : ℕ → ℕ → ℕ) (x y : ℕ) → x < 3 * w → y < 3 * h → PixelOf w h f (enlarged q w h f x y)
unfolding enlarged
enlarged_pixel q w h f x y hx hy =
    block_laws.own_words q w h f (x / 3) (y / 3) (omega arith) (omega arith) (3 * (y % 3) + x % 3) (omega arith)

-- and one of what comes out of that
twice_pixel : (q : Clarity) (w h : ℕ) (f : ℕ → ℕ → ℕ) (x y : ℕ) → x < 9 * w → y < 9 * h → PixelOf w h f (enlarged_twice q w h f x y)
unfolding enlarged_twice
twice_pixel q w h f x y hx hy =
    let m = enlarged_pixel q (3 * w) (3 * h) (enlarged q w h f) x y (omega arith) (omega arith) in
    let n = enlarged_pixel q w h f m.column m.row m.on_x m.on_y in
    record { column = n.column; row = n.row; on_x = n.on_x; on_y = n.on_y; is = m.is ∙ n.is }

own_words9 : (q : Clarity) (w h : ℕ) (p : List ℕ) (bx by : ℕ) → bx < w → by < h
    → (k : ℕ) → k < 81 → PixelOf w h (words w p) (get_or (draw9 q w h p bx by) k 0)
own_words9 q w h p bx by hx hy k l =
    let m = twice_pixel q w h (words w p) (9 * bx + k % 9) (9 * by + k / 9) (omega arith) (omega arith) in
    record {
      column = m.column;
      row = m.row;
      on_x = m.on_x;
      on_y = m.on_y;
      is = get_or_table 81 (λ k. enlarged_twice q w h (words w p) (9 * bx + k % 9) (9 * by + k / 9)) k 0 l ∙ m.is;
    }

pub block_laws9 : BlockLaws9
block_laws9 = record { own_words9 = own_words9; box9_local = box9_local }

-- ---- settings that count as equal

enlarged_settings : (c d : Clarity) → plainly c ≡ plainly d → (w h : ℕ) (f : ℕ → ℕ → ℕ) → enlarged c w h f ≡ enlarged d w h f
unfolding enlarged
enlarged_settings c d e w h f = λ i x y. get_or (block_settings c d e w h f (x / 3) (y / 3) i) (3 * (y % 3) + x % 3) 0

twice_settings : (c d : Clarity) → plainly c ≡ plainly d → (w h : ℕ) (f : ℕ → ℕ → ℕ) → enlarged_twice c w h f ≡ enlarged_twice d w h f
unfolding enlarged_twice
twice_settings c d e w h f =
    enlarged_settings c d e (3 * w) (3 * h) (enlarged c w h f) ∙ ap (enlarged d (3 * w) (3 * h)) (enlarged_settings c d e w h f)

-- ---- the laws

pub lawful9 : Lawful screen9
lawful9 = record {
  scaled = omega arith;
  draw_length = λ c w h p bx by. refl;
  local = λ c w h p q bx by lp lq hx hy agree.
      box9_local c w h p q bx by hx hy (λ x y i. agree x y i.on_x i.on_y (in_box w h 8 7 8 x y bx by i));
  settings = λ c d e w h p bx by.
      ap (λ (g : ℕ → ℕ → ℕ). table 81 (λ k. g (9 * bx + k % 9) (9 * by + k / 9))) (twice_settings c d e w h (words w p));
}

pub drawn_from9 : (q : Clarity) (w h : ℕ) (p : List ℕ) (bx by : ℕ) → bx < w → by < h
    → draw9 q w h p bx by ≡ draw9 q w h (take (w * h) p) bx by
drawn_from9 q w h p bx by hx hy = box9_local q w h p (take (w * h) p) bx by hx hy (λ x y i. front p i.on_x i.on_y)
