-- What drawing asks for and what it leaves, for a screen and a setting of clarity. Definitions only.
use Rattle.std.specs.Prelude.{◌≡◌, true, List, ℕ, ◌*◌, get_or, take}
use Rattle.clarity.specs.declared.Clarity.{Clarity}
use Rattle.machine.specs.Lists.{set_all, has, count}
use Rattle.machine.specs.Screen.{Screen}
use Rattle.machine.specs.Machine.{put_all}
use Rattle.machine.specs.Calls.{is_stale}
use Rattle.marks.specs.Marks.{stale_in, chosen}

-- the blocks bs drawn, and no longer stale
pub record DrawsAll (S : Screen) (w h : ℕ) (q : Clarity) (bs picture output marks output' marks' : List ℕ) : Type 0 where
  pub output_now : output' ≡ put_all S w h q (take (w * h) picture) bs output
  pub marks_now : marks' ≡ set_all bs 0 marks

-- the first n stale blocks of lo to hi - 1 drawn, and no longer stale; `stale` of them were stale before
pub record Draws (S : Screen) (w h : ℕ) (q : Clarity) (lo hi n : ℕ) (picture output marks output' marks' : List ℕ) (stale : ℕ) : Type 0 where
  pub stale_before : stale ≡ count (stale_in lo hi marks)
  pub draws : DrawsAll S w h q (chosen lo hi n marks) picture output marks output' marks'

-- the stale blocks of R drawn, in whatever order, and no longer stale
pub record Swept (S : Screen) (w h : ℕ) (q : Clarity) (R : ℕ → Type 0) (picture output marks output' marks' : List ℕ) : Type 0 where
  pub blocks : List ℕ
  pub inside : (b : ℕ) → has blocks b ≡ true → R b
  pub was_stale : (b : ℕ) → has blocks b ≡ true → is_stale (get_or marks b 0) ≡ true
  pub draws : DrawsAll S w h q blocks picture output marks output' marks'
  pub clear : (b : ℕ) → R b → get_or marks' b 0 ≡ 0
