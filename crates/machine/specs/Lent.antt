-- What a call that is not refused was lent: sides within the screen's limit, a position inside the picture, and buffers, whose lengths are
-- p, o and m, that are long enough. Definitions only.
use Rattle.std.specs.Prelude.{ℕ, ◌+◌, ◌*◌, ◌≤◌, ◌<◌}
use Rattle.paints.specs.Paints.{limit}
use Rattle.machine.specs.Screen.{Screen, block_words}

module _ (S : Screen) (w h : ℕ) where
  -- opening and refresh
  pub record Lent (p o m : ℕ) : Type 0 where
    pub wide : w ≤ S.side
    pub high : h ≤ S.side
    pub for_picture : w * h ≤ p
    pub for_output : block_words S * (w * h) ≤ o
    pub for_marks : w * h ≤ m

  pub record LentPaint (p m column row : ℕ) : Type 0 where
    pub wide : w ≤ S.side
    pub high : h ≤ S.side
    pub for_picture : w * h ≤ p
    pub for_marks : w * h ≤ m
    pub across : column < w
    pub down : row < h
    pub at : row * w + column < w * h

  -- a list of n items; of its picture each item's single paint is said
  pub record LentList (m n : ℕ) : Type 0 where
    pub wide : w ≤ S.side
    pub high : h ≤ S.side
    pub for_marks : w * h ≤ m
    pub few : n ≤ limit

  pub record LentShow (o bx by : ℕ) : Type 0 where
    pub wide : w ≤ S.side
    pub high : h ≤ S.side
    pub for_output : block_words S * (w * h) ≤ o
    pub across : bx < w
    pub down : by < h
