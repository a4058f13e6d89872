-- The three-times screen is lawful, by the locality of section 6, and draws from no word past the picture. Assumes nothing.
use mathlib.Core.Path.{◌≡◌, ap, ◌∙◌}
use mathlib.Core.Bool.{Bool, true, ◌&&◌, ◌||◌, or-true}
use mathlib.Core.List.{List}
use Prim.Native.Nat.{ℕ, ◌+◌, ◌-◌, ◌*◌, ◌<◌}
use native.Mathlib.Omega.{arith}
use lib.ListN.{take}
use Rattle.picture.specs.Picture.{words}
use Rattle.picture.specs.Local.{In}
use Rattle.clarity.specs.declared.Clarity.{Clarity}
use Rattle.block.proofs.Cross.{cross, block_length}
use Rattle.block.proofs.Standard.{block_settings}
use Rattle.machine.specs.Screen.{Lawful}
use Rattle.marks.specs.Marks.{between}
use Rattle.three.specs.Three.{cross3, draw3, screen3}
use Rattle.machine.proofs.Places.{front}
use Rattle.marks.proofs.Box.{in_box}

-- a paint names the blocks that may depend on its pixel
wide : (w h x y bx by : ℕ) → In w h bx by 6 6 3 2 x y → cross3 x y bx by ≡ true
wide w h x y bx by i = ap (λ (t : Bool). t || (between (x - 3) (x + 3) bx && between (y - 5) (y + 6) by)) (in_box w h 6 2 3 x y bx by i)

high : (w h x y bx by : ℕ) → In w h bx by 3 3 6 5 x y → cross3 x y bx by ≡ true
high w h x y bx by i =
    let t : Bool = between (x - 6) (x + 6) bx && between (y - 2) (y + 3) by in
    ap (λ (u : Bool). t || u) (in_box w h 3 5 6 x y bx by i) ∙ or-true t

pub lawful3 : Lawful screen3
lawful3 = record {
  scaled = omega arith;
  draw_length = λ c w h p bx by. block_length c w h (words w p) bx by;
  local = λ c w h p q bx by lp lq hx hy agree.
      cross c w h (words w p) (words w q) bx by hx hy (λ x y i. agree x y i.on_x i.on_y (wide w h x y bx by i))
      (λ x y i. agree x y i.on_x i.on_y (high w h x y bx by i));
  settings = λ c d e w h p bx by. block_settings c d e w h (words w p) bx by;
}

pub drawn_from : (q : Clarity) (w h : ℕ) (p : List ℕ) (bx by : ℕ) → bx < w → by < h
    → draw3 q w h p bx by ≡ draw3 q w h (take (w * h) p) bx by
drawn_from q w h p bx by hx hy =
    cross q w h (words w p) (words w (take (w * h) p)) bx by hx hy
    (λ x y i. front p i.on_x i.on_y) (λ x y i. front p i.on_x i.on_y)
