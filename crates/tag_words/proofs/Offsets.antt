-- The word that an offset of the table leads to. Assumes nothing.
use mathlib.Core.Path.{◌≡◌, ◌∙◌, ap}
use Prim.Native.Nat.{ℕ, zero, suc}
use lib.Dec.{lit<}
use lib.IntN.{ℤ}
use mir.Syntax.{w32}
use mir.Val.{SFits, to_z, of_z}
use mir.ValLaws.{to_z-of_z}
use Rattle.picture.specs.Picture.{near}
use Rattle.tag.specs.declared.Offset.{Offset}
use Rattle.tag.specs.Tag.{offset_of}

-- an offset of the table fits 32 bits, so it reaches a callee as it is
fits : (tag : ℕ) → SFits w32 (offset_of tag).dx × SFits w32 (offset_of tag).dy
fits zero = (record { sfits = lit< tt }, record { sfits = lit< tt })
fits (suc zero) = (record { sfits = lit< tt }, record { sfits = lit< tt })
fits (suc (suc zero)) = (record { sfits = lit< tt }, record { sfits = lit< tt })
fits (suc (suc (suc zero))) = (record { sfits = lit< tt }, record { sfits = lit< tt })
fits (suc (suc (suc (suc zero)))) = (record { sfits = lit< tt }, record { sfits = lit< tt })
fits (suc (suc (suc (suc (suc zero))))) = (record { sfits = lit< tt }, record { sfits = lit< tt })
fits (suc (suc (suc (suc (suc (suc zero)))))) = (record { sfits = lit< tt }, record { sfits = lit< tt })
fits (suc (suc (suc (suc (suc (suc (suc zero))))))) = (record { sfits = lit< tt }, record { sfits = lit< tt })
fits (suc (suc (suc (suc (suc (suc (suc (suc zero)))))))) = (record { sfits = lit< tt }, record { sfits = lit< tt })
fits (suc (suc (suc (suc (suc (suc (suc (suc (suc t))))))))) = (record { sfits = lit< tt }, record { sfits = lit< tt })

pub word_of : {A : Type 0} (f : ℕ → ℕ → A) (w h x y tag : ℕ) (o : Offset) (q : A) → o ≡ offset_of tag
    → q ≡ near w h f x y (to_z w32 (of_z w32 o.dx)) (to_z w32 (of_z w32 o.dy)) → q ≡ near w h f x y (offset_of tag).dx (offset_of tag).dy
word_of f w h x y tag o q e k =
    k
    ∙ ap (λ (p : Offset). near w h f x y (to_z w32 (of_z w32 p.dx)) (to_z w32 (of_z w32 p.dy))) e
    ∙ ap (λ (z : ℤ). near w h f x y z (to_z w32 (of_z w32 (offset_of tag).dy))) (to_z-of_z w32 (offset_of tag).dx (fits tag).0)
    ∙ ap (λ (z : ℤ). near w h f x y (offset_of tag).dx z) (to_z-of_z w32 (offset_of tag).dy (fits tag).1)
