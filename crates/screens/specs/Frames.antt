-- The buffers that a frame is drawn into. Definitions only.
use Rattle.std.specs.Prelude.{ℕ, ◌*◌, ◌≤◌}
use Rattle.machine.specs.Screen.{block_words}
use Rattle.screens.specs.declared.frame.Frame.{Frame}
use Rattle.screens.specs.Screens.{screen_of}

-- an output of o words and m marks are long enough
pub record Buffers (f : Frame) (o m : ℕ) : Type 0 where
  pub for_output : block_words (screen_of f.scale) * (f.picture.w * f.picture.h) ≤ o
  pub for_marks : f.picture.w * f.picture.h ≤ m
