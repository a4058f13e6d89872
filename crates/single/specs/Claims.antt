-- What section 2 says of the root. Definitions only; `proofs/RootTheorems.antt` proves it.
use Rattle.std.specs.Prelude.{◌≡◌, ℕ, ◌+◌, ◌*◌, ◌^◌, ◌<◌, false, T, pos, negsuc, Float}
use Rattle.std.specs.Float.{fin, binary32}
use Rattle.std.specs.Float.Ieee.{to_bits, fits, le}
use Rattle.std.specs.Float.Ieee.Exact.{HasValue}
use Rattle.single.specs.Single.{f0, f3}
use Rattle.single.specs.Root.{single, sqrt_of, rooted}

-- x is a single without sign bit, and n units of 2 ^ -149
pub record Units (x : Float) (n : ℕ) : Type 0 where
  pub held : T (fits binary32 x)
  pub value : HasValue x false n (2 ^ 149)

pub record IsRoot (sqrt : Float → Float) : Type 0 where
  -- a single that is finite and has no sign bit
  pub held : (x : Float) → T (fits binary32 x) → T (rooted x) → T (fits binary32 (sqrt x))
  pub unsigned : (x : Float) → T (fits binary32 x) → T (rooted x) → T (rooted (sqrt x))
  -- The nearest: with X, R and Y units in x, its root and any other single y, the middle of R and Y lies on Y's side of
  -- the exact root of X. In whole numbers the middle is (Y + R) / 2, and the exact root's square is X * 2 ^ 149. Never
  -- are they equal, so no other single is as near.
  pub lower : (x y : Float) (X R Y : ℕ) → Units x X → Units (sqrt x) R → Units y Y → Y < R → (Y + R) * (Y + R) < 4 * (X * 2 ^ 149)
  pub higher : (x y : Float) (X R Y : ℕ) → Units x X → Units (sqrt x) R → Units y Y → R < Y → 4 * (X * 2 ^ 149) < (Y + R) * (Y + R)
  -- a larger single has no smaller root
  pub mono : (x y : Float) → T (fits binary32 x) → T (fits binary32 y) → T (rooted x) → T (rooted y) → T (le x y) → T (le (sqrt x) (sqrt y))
  -- 0 at 0, and only there; 3 at 9; 2 ^ -8 at 2 ^ -16
  pub zero : sqrt f0 ≡ f0
  pub zero_only : (x : Float) → T (fits binary32 x) → T (rooted x) → sqrt x ≡ f0 → x ≡ f0
  pub nine : sqrt (fin false 9 (pos 0)) ≡ f3
  pub 2⁻¹⁶ : sqrt (fin false 1 (negsuc 15)) ≡ fin false 1 (negsuc 7)

pub record RootLaws : Type 0 where
  -- each single that has a root is `single` of its pattern, in units
  pub units : (x : Float) → T (fits binary32 x) → T (rooted x) → Units x (single (to_bits binary32 x))
  pub is_root : IsRoot sqrt_of
  -- no tie exists: twice the middle of two neighbouring singles is the sum of the two, and its square is never four times the square of a
  -- single's root
  pub no_tie : (b c : ℕ) → (single c + single (c + 1)) * (single c + single (c + 1)) ≡ 4 * (single b * 2 ^ 149) → ⊥
