-- What section 8's calls owe beside their contracts: where a block stands, that the standard is the threshold 0.5, and that nothing depends
-- on a word of a picture buffer past the first w * h. Definitions only; `proofs/Theorem.antt` proves it.
use Rattle.std.specs.Prelude.{◌≡◌, List, ℕ, ◌+◌, ◌*◌, ◌<◌, Float, get_or, take}
use Rattle.clarity.specs.declared.Clarity.{Clarity}
use Rattle.clarity.specs.declared.Clarity.TheVariants.{Standard, Threshold}
use Rattle.single.specs.Single.{f½}
use Rattle.block.specs.Block.{block_of}
use Rattle.enlarged.specs.Whole.{scale_of, singles_of, bytes_of}
use Rattle.whole.specs.Calls.{Scales, Scales9}

pub record WholeLaws : Type 0 where
  -- word c of row r of block (bx, by) stands in output row 3 by + r, column 3 bx + c: the output's block is section 6's block
  pub scale_block : (q : Clarity) (w h : ℕ) (f : ℕ → ℕ → ℕ) (bx by r c : ℕ) → bx < w → by < h → r < 3 → c < 3
      → get_or (scale_of q w h f) ((3 * by + r) * (3 * w) + (3 * bx + c)) 0 ≡ get_or (block_of q w h f bx by) (3 * r + c) 0
  pub scale_standard : (w h : ℕ) (f : ℕ → ℕ → ℕ) → scale_of Standard w h f ≡ scale_of (Threshold f½) w h f
  pub singles_standard : (w h : ℕ) (f : ℕ → ℕ → ℕ) → singles_of Standard w h f ≡ singles_of (Threshold f½) w h f
  pub bytes_standard : (w h : ℕ) (f : ℕ → ℕ → ℕ) → bytes_of Standard w h f ≡ bytes_of (Threshold f½) w h f
  -- what `scale` answers and leaves, lent a picture buffer p, is what it would, lent the first w * h words of p and no more
  pub scale_front : (q : Clarity) (w h : ℕ) (p o : List ℕ) (s : List Float) (b o' : List ℕ) (s' : List Float) (b' : List ℕ) (r : ℕ)
      → Scales q w h p o s b o' s' b' r → Scales q w h (take (w * h) p) o s b o' s' b' r
  -- and so of `scale9x`
  pub scale9x_front : (q : Clarity) (w h : ℕ) (p o m : List ℕ) (s : List Float) (b o' m' : List ℕ) (s' : List Float) (b' : List ℕ) (r : ℕ)
      → Scales9 q w h p o m s b o' m' s' b' r → Scales9 q w h (take (w * h) p) o m s b o' m' s' b' r

-- ---- the calls as sessions are held to them: lent the picture buffer p at the setting q, not refused, and leaving the output o

pub record Enlarges3 (q : Clarity) (w h : ℕ) (p o : List ℕ) : Type 0 where
  pub output : List ℕ
  pub singles : List Float
  pub bytes : List ℕ
  pub singles' : List Float
  pub bytes' : List ℕ
  pub scales : Scales q w h p output singles bytes o singles' bytes' 0

pub record Enlarges9 (q : Clarity) (w h : ℕ) (p o : List ℕ) : Type 0 where
  pub output : List ℕ
  pub middle : List ℕ
  pub singles : List Float
  pub bytes : List ℕ
  pub middle' : List ℕ
  pub singles' : List Float
  pub bytes' : List ℕ
  pub scales : Scales9 q w h p output middle singles bytes o middle' singles' bytes' 0
