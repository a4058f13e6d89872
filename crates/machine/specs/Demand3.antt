-- Demand 3, for a screen: what holds of every list of calls on a freshly opened session, each call being bound by its contract alone.
-- Definitions only; `every` in `proofs/Demand3.antt` proves it of every lawful screen, and the crate `promise` asks for it of both screens.
use Rattle.std.specs.Prelude.{◌≡◌, Bool, true, false, cond, List, [], ◌∷◌, map, ℕ, suc, ◌+◌, ◌-◌, ◌*◌, ◌<◌, eqb, get_or, take, drop, replicate}
use Rattle.clarity.specs.declared.Clarity.{Clarity}
use Rattle.clarity.specs.Clarity.{plainly}
use Rattle.header.specs.declared.Rectangle.{Rectangle}
use Rattle.header.specs.declared.Header.{Header}
use Rattle.paints.specs.declared.Paint.{Paint as Item}
use Rattle.machine.specs.Lists.{table, count}
use Rattle.machine.specs.Screen.{Screen, block_words}
use Rattle.machine.specs.Machine.{State, Call, Paint, PaintList, Refresh, Show, Lock, Answer, Painted, PaintedList}
use Rattle.machine.specs.Machine.{Refreshed, Shown, Locked, put_all, block_at, opened, header_of, after, answers}
use Rattle.machine.specs.Calls.{stale_of, PaintEnd, PaintListEnd, RefreshEnd, ShowEnd, LockEnd, Opens, Paints, PaintLists, Refreshes, Shows, Locks}

-- a session's own buffers
pub record Buffers : Type 0 where
  pub picture : List ℕ
  pub output : List ℕ
  pub marks : List ℕ

-- ---- lists of calls

-- the header last answered without a refusal, after a lock call that was lent one and ended as d
abbrev pub latest : Header → LockEnd → Header
latest header d = cond (eqb d.refusal 0) d.header header

-- the calls cs, the first of them lent a header and the buffers b, each further one the header last answered without a refusal and the
-- buffers as the call before left them; they answer rs, and leave the last header and e
pub data Ran (S : Screen) : Header → Buffers → List Call → List Answer → Header → Buffers → Type 0 where
  none : {header : Header} {b : Buffers} → Ran S header b [] [] header b
  paint : {header last : Header} {b e : Buffers} {cs : List Call} {rs : List Answer} {column row word : ℕ} {d : PaintEnd}
      → Paints S header b.picture b.marks column row word d
      → Ran S header (record { picture = d.picture; output = b.output; marks = d.marks }) cs rs last e
      → Ran S header b (Paint column row word ∷ cs) (Painted d.refusal d.changed d.stale ∷ rs) last e
  paint_list : {header last : Header} {b e : Buffers} {cs : List Call} {rs : List Answer} {items : List Item} {d : PaintListEnd}
      → PaintLists S header b.picture b.marks items d
      → Ran S header (record { picture = d.picture; output = b.output; marks = d.marks }) cs rs last e
      → Ran S header b (PaintList items ∷ cs) (PaintedList d.refusal d.stale ∷ rs) last e
  refresh : {header last : Header} {b e : Buffers} {cs : List Call} {rs : List Answer} {n : ℕ} {d : RefreshEnd}
      → Refreshes S header b.picture b.output b.marks n d
      → Ran S header (record { picture = b.picture; output = d.output; marks = d.marks }) cs rs last e
      → Ran S header b (Refresh n ∷ cs) (Refreshed d.refusal d.drawn d.left ∷ rs) last e
  show : {header last : Header} {b e : Buffers} {cs : List Call} {rs : List Answer} {bx by : ℕ} {d : ShowEnd}
      → Shows S header b.output b.marks bx by d
      → Ran S header b cs rs last e
      → Ran S header b (Show bx by ∷ cs) (Shown d.refusal d.words ∷ rs) last e
  lock : {header last : Header} {b e : Buffers} {cs : List Call} {rs : List Answer} {r : Rectangle} {d : LockEnd}
      → Locks S header r d
      → Ran S (latest header d) b cs rs last e
      → Ran S header b (Lock r ∷ cs) (Locked d.refusal d.header ∷ rs) last e

-- an opening, given w, h and a setting, that is lent b, is not refused and answers the stale count; and a list of calls from where it ends,
-- the first of them lent the header that the opening answered
pub record Trace (S : Screen) (w h : ℕ) (clarity : Clarity) (b : Buffers) (stale : ℕ) (cs : List Call) (rs : List Answer) (last : Header) (e : Buffers)
    : Type 0 where
  pub header : Header
  pub output : List ℕ
  pub marks : List ℕ
  pub opens : Opens S w h clarity b.picture b.output b.marks
      (record { output = output; marks = marks; refusal = 0; header = header; stale = stale })
  pub ran : Ran S header (record { picture = b.picture; output = output; marks = marks }) cs rs last e

-- a further list: no paint and no paint list, k refreshes of n blocks each, and any shows and locks
pub data Further (n : ℕ) : ℕ → List Call → Type 0 where
  none : Further n 0 []
  refresh : {k : ℕ} {cs : List Call} → Further n k cs → Further n (suc k) (Refresh n ∷ cs)
  show : {k : ℕ} {cs : List Call} {bx by : ℕ} → Further n k cs → Further n k (Show bx by ∷ cs)
  lock : {k : ℕ} {cs : List Call} {r : Rectangle} → Further n k cs → Further n k (Lock r ∷ cs)

-- ---- what is claimed of them

-- the mark that stands for a block of the stale set, and for another
abbrev pub byte_of : Bool → ℕ
byte_of true = 1
byte_of false = 0

module _ (S : Screen) (w h : ℕ) where
  -- a picture enlarged whole at a setting: every block drawn
  abbrev pub whole : Clarity → List ℕ → List ℕ
  whole clarity picture = put_all S w h clarity picture (table (w * h) (λ b. b)) (replicate (block_words S * (w * h)) 0)

  -- the machine, given the opening's w, h and setting and the first w * h words of its picture buffer
  abbrev pub started : Clarity → Buffers → State
  started clarity b = opened S w h clarity (take (w * h) b.picture)

  -- the stale count, by the marks
  abbrev pub left : Buffers → ℕ
  left e = count (stale_of (w * h) e.marks)

  -- the header last and the buffers e hold the machine's state s, and the buffers past it what b held
  pub record Holds (s : State) (b : Buffers) (last : Header) (e : Buffers) : Type 0 where
    pub header_same : last ≡ header_of w h s
    pub picture_same : take (w * h) e.picture ≡ s.picture
    pub output_same : take (block_words S * (w * h)) e.output ≡ s.output
    pub marks_same : take (w * h) e.marks ≡ map byte_of s.stale
    pub picture_rest : drop (w * h) e.picture ≡ drop (w * h) b.picture
    pub output_rest : drop (block_words S * (w * h)) e.output ≡ drop (block_words S * (w * h)) b.output
    pub marks_rest : drop (w * h) e.marks ≡ drop (w * h) b.marks

  -- of a list: clarity the setting that the opening was given, b the buffers that it was lent, stale its count, rs the answers, last and e
  -- the header and the buffers that the list left
  pub record Follows (clarity : Clarity) (b : Buffers) (stale : ℕ) (cs : List Call) (rs : List Answer) (last : Header) (e : Buffers) : Type 0 where
    pub same_count : stale ≡ count (started clarity b).stale
    pub same_answers : rs ≡ answers S w h cs (started clarity b)
    pub same_state : Holds (after S w h cs (started clarity b)) b last e
    -- a block that is not stale shows what enlarging the present picture whole at the session's setting puts there, which is the block as
    -- sections 1 to 6 draw it
    pub blocks : (bx by : ℕ) → bx < w → by < h → get_or (after S w h cs (started clarity b)).stale (by * w + bx) true ≡ false
        → (block_at S w h bx by e.output ≡ block_at S w h bx by (whole clarity (take (w * h) e.picture)))
        × (block_at S w h bx by e.output ≡ S.draw clarity w h (take (w * h) e.picture) bx by)
    -- s stale blocks, and k further refreshes of n, leave the larger of 0 and s - k * n
    pub counts_down : (n k : ℕ) (more : List Call) (rs' : List Answer) (last' : Header) (e' : Buffers) → Further n k more
        → Ran S last e more rs' last' e' → left e' ≡ left e - k * n

  -- of two lists, perhaps of two sessions with different first pictures, and whatever each has locked: ending on the same picture
  -- with nothing stale, they hold the same output
  abbrev pub SameOutput : Buffers → Buffers → Type 0
  SameOutput e e' =
      take (w * h) e.picture ≡ take (w * h) e'.picture → left e ≡ 0 → left e' ≡ 0
      → take (block_words S * (w * h)) e.output ≡ take (block_words S * (w * h)) e'.output

pub record Demand3 (S : Screen) : Type 0 where
  pub each : {w h stale : ℕ} {c : Clarity} {b e : Buffers} {cs : List Call} {rs : List Answer} {last : Header}
      → Trace S w h c b stale cs rs last e → Follows S w h c b stale cs rs last e
  -- of two sessions whose settings count as equal
  pub two : {w h stale stale' : ℕ} {c c' : Clarity} {b b' e e' : Buffers} {cs cs' : List Call} {rs rs' : List Answer} {last last' : Header}
      → plainly c ≡ plainly c' → Trace S w h c b stale cs rs last e → Trace S w h c' b' stale' cs' rs' last' e' → SameOutput S w h e e'
