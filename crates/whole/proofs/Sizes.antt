-- What a call leaves by its answer, and the words of a picture enlarged three times. Assumes nothing.
use mathlib.Core.Path.{◌≡◌, sym, ◌∙◌, ap}
use mathlib.Core.List.{List}
use Prim.Native.Nat.{ℕ, ◌*◌}
use native.Mathlib.Nat.{mul_assoc, mul_left_comm}
use native.Mathlib.Omega.{arith}
use Rattle.picture.specs.Fill.{put}
use Rattle.whole.specs.Calls.{filled}

-- a buffer after a call that was not refused
pub written : {E : Type 0} (r : ℕ) (vs l l' : List E) → r ≡ 0 → l' ≡ put 0 vs l → l' ≡ filled r vs l
written r vs l l' z e = e ∙ ap (λ (n : ℕ). filled n vs l) (sym z)

pub nine_words : (w h : ℕ) → 3 * w * (3 * h) ≡ 9 * (w * h)
nine_words w h = simp (mul_assoc, mul_left_comm) (omega arith)
