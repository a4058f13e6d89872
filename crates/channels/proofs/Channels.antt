-- A channel is at most 255, and the three channels are the low 24 bits. Assumes nothing.
use mathlib.Core.Path.{◌≡◌, sym, ap, ◌∙◌}
use Prim.Native.Nat.{ℕ, ◌+◌, ◌*◌, ◌/◌, ◌%◌, ◌^◌, ◌≤◌}
use native.Mathlib.Omega.{arith}
use lib.Bits.{bit_and, and_mask}
use Rattle.channels.specs.Channels.{red_of, green_of, blue_of}

low8 : (n : ℕ) → bit_and n 0xff ≡ n % 256
low8 n = and_mask n 8

pub byte : (n : ℕ) → bit_and n 0xff ≤ 255
byte n = rw (low8 n) (omega arith)

pub agree : (p q : ℕ) → p % 2 ^ 24 ≡ q % 2 ^ 24 → (red_of p ≡ red_of q) × (green_of p ≡ green_of q) × (blue_of p ≡ blue_of q)
agree p q e = rw (low8 (p / 2 ^ 16), low8 (q / 2 ^ 16), low8 (p / 2 ^ 8), low8 (q / 2 ^ 8), low8 p, low8 q) (omega arith)

bytes : (p : ℕ) → p % 2 ^ 24 ≡ p / 2 ^ 16 % 256 * 65536 + (p / 2 ^ 8 % 256 * 256 + p % 256)
bytes p = upper ∙ ap (λ (x : ℕ). p / 2 ^ 16 % 256 * 65536 + x) lower
  where
    upper : p % 2 ^ 24 ≡ p / 2 ^ 16 % 256 * 65536 + p % 65536
    upper = omega arith

    lower : p % 65536 ≡ p / 2 ^ 8 % 256 * 256 + p % 256
    lower = omega arith

pub apart : (p q : ℕ) → red_of p ≡ red_of q → green_of p ≡ green_of q → blue_of p ≡ blue_of q → p % 2 ^ 24 ≡ q % 2 ^ 24
apart p q r g b =
    bytes p
    ∙ ap (λ (x : ℕ). x * 65536 + (p / 2 ^ 8 % 256 * 256 + p % 256)) (rw (low8 (p / 2 ^ 16), low8 (q / 2 ^ 16)) at r)
    ∙ ap (λ (x : ℕ). q / 2 ^ 16 % 256 * 65536 + (x * 256 + p % 256)) (rw (low8 (p / 2 ^ 8), low8 (q / 2 ^ 8)) at g)
    ∙ ap (λ (x : ℕ). q / 2 ^ 16 % 256 * 65536 + (q / 2 ^ 8 % 256 * 256 + x)) (rw (low8 p, low8 q) at b)
    ∙ sym (bytes q)
