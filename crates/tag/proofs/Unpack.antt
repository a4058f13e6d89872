-- What `Claims.antt` says of tag numbers. Assumes nothing.
use Rattle.std.specs.Prelude.{◌≡◌, Bool, true, ◌&&◌, ℕ, zero, suc, ◌≤◌, ◌<◌, T, eqb}
use Rattle.std.proofs.Common.{sym, subst, ⊎_elim, eq-or-lt_of_le, arith, eqb→eq}
use Rattle.std.specs.Float.Ieee.{add, mul, div, to_unsigned}
use Rattle.std.specs.Float.Ieee.Fits.{and_l, and_r}
use Rattle.tag.specs.Claims.{packed_tag, unpack_corner_tag, unpack_mid_tag, TagLaws}
use Rattle.tag.proofs.Ranges.{traced}

-- a test of each number below n
every : (ℕ → Bool) → ℕ → Bool
every p zero = true
every p (suc n) = p n && every p n

at : (p : ℕ → Bool) (n i : ℕ) → T (every p n) → i < n → T (p i)
unfolding every
at p zero i t h = let none : ⊥ = omega arith in absurd none
at p (suc n) i t h =
    let le : i ≤ n = omega arith in
    ⊎_elim
    (λ (e : i ≡ n). subst (λ (k : ℕ). T (p k)) (sym e) (and_l (p n) (every p n) t))
    (λ (l : i < n). at p n i (and_r (p n) (every p n) t) l)
    (eq-or-lt_of_le le)

recovers : ℕ → ℕ → Bool
recovers c m = eqb (unpack_corner_tag (packed_tag c m)) c && eqb (unpack_mid_tag (packed_tag c m)) m

swept : T (every (λ c. every (recovers c) 9) 9)
unfolding packed_tag unpack_corner_tag unpack_mid_tag add mul div to_unsigned every recovers
swept = tt

pub unpacked : (c m : ℕ) → c ≤ 8 → m ≤ 8 → (unpack_corner_tag (packed_tag c m) ≡ c) × (unpack_mid_tag (packed_tag c m) ≡ m)
unfolding recovers
unpacked c m h k =
    let t : T (recovers c m) = at (recovers c) 9 m (at (λ c. every (recovers c) 9) 9 c swept (omega arith)) (omega arith) in (
      eqb→eq (unpack_corner_tag (packed_tag c m)) c (and_l (eqb (unpack_corner_tag (packed_tag c m)) c) (eqb (unpack_mid_tag (packed_tag c m)) m) t),
      eqb→eq (unpack_mid_tag (packed_tag c m)) m (and_r (eqb (unpack_corner_tag (packed_tag c m)) c) (eqb (unpack_mid_tag (packed_tag c m)) m) t),
    )

pub tag_laws : TagLaws
tag_laws = record { traced = traced; unpacked = unpacked }
