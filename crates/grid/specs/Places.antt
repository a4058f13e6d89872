-- Places beside p on an axis of n places: where an offset leads, and how far away it is.
use Rattle.std.specs.Prelude.{◌≡◌, ℕ, suc, ◌+◌, ◌≤◌, ◌<◌, pos, negsuc}
use Rattle.picture.specs.Picture.{moved}
use Rattle.grid.specs.declared.place.Three.{Three}

-- q is on the axis, at most a places from p
pub record Close (a n p q : ℕ) : Type 0 where
  pub low : p ≤ q + a
  pub high : q ≤ p + a
  pub inside : q < n

pub record Threes (n p : ℕ) (r : Three) : Type 0 where
  pub before_is : r.before ≡ moved n p (negsuc 0)
  pub at_is : r.at ≡ moved n p (pos 0)
  pub after_is : r.after ≡ moved n p (pos 1)
  pub before_in : Close 1 n p r.before
  pub at_in : Close 0 n p r.at
  pub after_in : Close 1 n p r.after

-- the places d before and d after p
pub record Apart (d n p : ℕ) (r : Three) : Type 0 where
  pub before_is : (k : ℕ) → d ≡ suc k → r.before ≡ moved n p (negsuc k)
  pub at_is : r.at ≡ moved n p (pos 0)
  pub after_is : r.after ≡ moved n p (pos d)
  pub before_in : Close d n p r.before
  pub at_in : Close 0 n p r.at
  pub after_in : Close d n p r.after
