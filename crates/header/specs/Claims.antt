-- What the definitions of a lock come to. Definitions only; `proofs/Laws.antt` proves it.
use Rattle.std.specs.Prelude.{◌≡◌, ◌⊎◌, true, false, ℕ, ◌<◌}
use Rattle.header.specs.declared.Rectangle.{Rectangle}
use Rattle.header.specs.Header.{locked, past}

pub record LockLaws : Type 0 where
  -- of width or height 0: whatever the other three are, it is not refused and locks nothing
  pub none_locked : (r : Rectangle) → (r.width ≡ 0) ⊎ (r.height ≡ 0)
      → ((w h : ℕ) → past w h r ≡ false) × ((column row : ℕ) → locked r column row ≡ false)
  -- one that is not refused locks no position outside the picture, so 5 and 11 never hold of one paint
  pub locked_inside : (r : Rectangle) (w h column row : ℕ) → past w h r ≡ false → locked r column row ≡ true → (column < w) × (row < h)
