-- The order of the checks, at a picture of one pixel: where several conditions hold, the first gives the number. In each list the next
-- line mends what the line before was refused for. Assumes nothing.
use Rattle.std.specs.Prelude.{◌≡◌, refl, [], ◌∷◌}
use Rattle.picture.specs.Refusal as refusal
use Rattle.std.specs.Float.Ieee.{lt}
use Rattle.single.specs.Single.{f0}
use Rattle.clarity.specs.declared.Clarity.TheVariants.{Standard, Threshold}
use Rattle.header.specs.declared.Rectangle.{Rectangle}
use Rattle.header.specs.declared.Header.{Header}
use Rattle.header.specs.Header.{locked, past, no_lock}
use Rattle.machine.specs.Calls.{refusal_all, refusal_paint, refusal_list, refusal_show, refusal_lock}

-- a rectangle that fills a picture of one pixel, and one that reaches past its right border
abbrev filling : Rectangle
filling = record { left = 0; top = 0; width = 1; height = 1 }

abbrev across : Rectangle
across = record { left = 1; top = 0; width = 1; height = 1 }

-- the header of a picture of one pixel with a lock, at the standard and at a threshold of 0, which is not lawful
abbrev with : Rectangle → Header
with lock = record { w = 1; h = 1; lock = lock; clarity = Standard }

abbrev bad : Rectangle → Header
bad lock = record { w = 1; h = 1; lock = lock; clarity = Threshold f0 }

-- the calls of sessions
pub record Orders : Type 0 where
  -- opening and refresh: 1, 10, 2, 3, 4, 13
  pub all_order : (refusal_all 0 9 (bad across) 0 0 0 ≡ refusal.side)
      × (refusal_all 1 9 (bad across) 0 0 0 ≡ refusal.lock)
      × (refusal_all 1 9 (bad filling) 0 0 0 ≡ refusal.picture)
      × (refusal_all 1 9 (bad filling) 1 8 0 ≡ refusal.output)
      × (refusal_all 1 9 (bad filling) 1 9 0 ≡ refusal.scratch)
      × (refusal_all 1 9 (bad filling) 1 9 1 ≡ refusal.clarity)
      × (refusal_all 1 9 (with filling) 1 9 1 ≡ refusal.none)
  -- paint: 1, 10, 2, 4, 13, 5, the equal word, 11
  pub paint_order : (refusal_paint 0 (bad across) [] 0 1 0 8 ≡ refusal.side)
      × (refusal_paint 1 (bad across) [] 0 1 0 8 ≡ refusal.lock)
      × (refusal_paint 1 (bad filling) [] 0 1 0 8 ≡ refusal.picture)
      × (refusal_paint 1 (bad filling) (7 ∷ []) 0 1 0 8 ≡ refusal.scratch)
      × (refusal_paint 1 (bad filling) (7 ∷ []) 1 1 0 8 ≡ refusal.clarity)
      × (refusal_paint 1 (with filling) (7 ∷ []) 1 1 0 8 ≡ refusal.outside)
      × (refusal_paint 1 (with filling) (7 ∷ []) 1 0 0 7 ≡ refusal.none)
      × (refusal_paint 1 (with filling) (7 ∷ []) 1 0 0 8 ≡ refusal.locked)
      × (refusal_paint 1 (with no_lock) (7 ∷ []) 1 0 0 8 ≡ refusal.none)
  -- a paint list: 1, 10, 2, 4, 13, 12, and then the number of its first item that is refused
  pub list_order : (refusal_list 0 (bad across) 0 0 65 refusal.outside ≡ refusal.side)
      × (refusal_list 1 (bad across) 0 0 65 refusal.outside ≡ refusal.lock)
      × (refusal_list 1 (bad filling) 0 0 65 refusal.outside ≡ refusal.picture)
      × (refusal_list 1 (bad filling) 1 0 65 refusal.outside ≡ refusal.scratch)
      × (refusal_list 1 (bad filling) 1 1 65 refusal.outside ≡ refusal.clarity)
      × (refusal_list 1 (with filling) 1 1 65 refusal.outside ≡ refusal.items)
      × (refusal_list 1 (with filling) 1 1 64 refusal.outside ≡ refusal.outside)
      × (refusal_list 1 (with filling) 1 1 64 refusal.none ≡ refusal.none)
  -- show: 1, 10, 3, 4, 13, 5, 7
  pub show_order : (refusal_show 0 9 (bad across) 8 [] 0 1 ≡ refusal.side)
      × (refusal_show 1 9 (bad across) 8 [] 0 1 ≡ refusal.lock)
      × (refusal_show 1 9 (bad filling) 8 [] 0 1 ≡ refusal.output)
      × (refusal_show 1 9 (bad filling) 9 [] 0 1 ≡ refusal.scratch)
      × (refusal_show 1 9 (bad filling) 9 (1 ∷ []) 0 1 ≡ refusal.clarity)
      × (refusal_show 1 9 (with filling) 9 (1 ∷ []) 0 1 ≡ refusal.outside)
      × (refusal_show 1 9 (with filling) 9 (1 ∷ []) 0 0 ≡ refusal.stale)
      × (refusal_show 1 9 (with filling) 9 (0 ∷ []) 0 0 ≡ refusal.none)
  -- a lock: 1, 10 for the header's, 10 for the one that is given, 13
  pub lock_order : (refusal_lock 0 (bad across) across ≡ refusal.side)
      × (refusal_lock 1 (bad across) no_lock ≡ refusal.lock)
      × (refusal_lock 1 (bad filling) across ≡ refusal.lock)
      × (refusal_lock 1 (bad filling) no_lock ≡ refusal.clarity)
      × (refusal_lock 1 (with filling) no_lock ≡ refusal.none)

pub orders : Orders
unfolding past lt locked
orders = record {
  all_order = (refl, refl, refl, refl, refl, refl, refl);
  paint_order = (refl, refl, refl, refl, refl, refl, refl, refl, refl);
  list_order = (refl, refl, refl, refl, refl, refl, refl, refl);
  show_order = (refl, refl, refl, refl, refl, refl, refl, refl);
  lock_order = (refl, refl, refl, refl, refl);
}
