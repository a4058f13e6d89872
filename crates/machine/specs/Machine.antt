-- Section 7's plain machine, for a picture of w by h on a screen S. It is given the opening's w, h, setting and picture and each call's own
-- arguments; it takes nothing from the program. Definitions only. Blocks are numbered in row order: block b is (b % w, b / w).
use Rattle.std.specs.Prelude.{Bool, true, false, cond, ◌&&◌, List, [], ◌∷◌, ℕ, zero, suc, ◌+◌, ◌*◌, ◌/◌, ◌%◌, min, ltb, eqb, length, get_or, set, replicate}
use Rattle.picture.specs.Refusal as refusal
use Rattle.clarity.specs.declared.Clarity.{Clarity}
use Rattle.header.specs.declared.Rectangle.{Rectangle}
use Rattle.header.specs.declared.Header.{Header}
use Rattle.header.specs.Header.{locked, past, no_lock, no_header}
use Rattle.paints.specs.declared.Paint.{Paint as Item}
use Rattle.paints.specs.Paints.{limit}
use Rattle.machine.specs.Lists.{table, stamp, set_all, count, first}
use Rattle.machine.specs.Screen.{Screen, block_words, place}

-- Section 7's machine state
pub record State : Type 0 where
  -- w * h words, row by row
  pub picture : List ℕ
  -- the set of stale blocks: for each block, in row order, whether it is stale
  pub stale : List Bool
  -- block_words S * (w * h) words, laid out as `place` says
  pub output : List ℕ
  -- the locked rectangle
  pub lock : Rectangle
  -- the setting that blocks are drawn by; no call alters it
  pub clarity : Clarity

-- a call, with its arguments other than header, picture, output and marks
pub data Call : Type 0 where
  Paint : (column row word : ℕ) → Call
  PaintList : (items : List Item) → Call
  Refresh : (n : ℕ) → Call
  Show : (bx by : ℕ) → Call
  Lock : (lock : Rectangle) → Call

-- a call's answer: the refusal's number, 0 for none, and what stands beside it, each number of which is 0 beside a refusal
pub data Answer : Type 0 where
  -- changed: 1 where the word was stored, 0 for unchanged; stale, here and below: the stale count
  Painted : (refusal changed stale : ℕ) → Answer
  PaintedList : (refusal stale : ℕ) → Answer
  Refreshed : (refusal drawn left : ℕ) → Answer
  Shown : (refusal : ℕ) (words : List ℕ) → Answer
  Locked : (refusal : ℕ) (header : Header) → Answer

-- the refusal's number in an answer
abbrev pub number_of : Answer → ℕ
number_of (Painted refusal changed stale) = refusal
number_of (PaintedList refusal stale) = refusal
number_of (Refreshed refusal drawn left) = refusal
number_of (Shown refusal words) = refusal
number_of (Locked refusal header) = refusal

-- of two refusals the first, 0 being none
abbrev pub or_else : ℕ → ℕ → ℕ
or_else zero next = next
or_else (suc n) next = suc n

-- the position lies inside the picture
abbrev pub inside : ℕ → ℕ → ℕ → ℕ → Bool
inside w h column row = ltb column w && ltb row h

-- the header that belongs to a state
abbrev pub header_of : ℕ → ℕ → State → Header
header_of w h s = record { w = w; h = h; lock = s.lock; clarity = s.clarity }

-- the rectangle locked in place of the one before
abbrev pub relock : Rectangle → State → State
relock r s = record { picture = s.picture; stale = s.stale; output = s.output; lock = r; clarity = s.clarity }

module _ (S : Screen) (w h : ℕ) where
  -- block b lies inside the picture, and a changing paint at (column, row) names it
  abbrev pub names : ℕ → ℕ → ℕ → Bool
  names column row b = ltb b (w * h) && S.touches column row (b % w) (b / w)

  -- a block's words stored in the output, the first of them being its word k
  abbrev pub put_words : ℕ → ℕ → ℕ → List ℕ → List ℕ → List ℕ
  put_words bx by k [] output = output
  put_words bx by k (x ∷ xs) output = put_words bx by (suc k) xs (set output (place S w bx by k) x)

  -- block b drawn from a picture, at a setting
  abbrev pub put_block : Clarity → List ℕ → ℕ → List ℕ → List ℕ
  put_block clarity picture b output = put_words (b % w) (b / w) 0 (S.draw clarity w h picture (b % w) (b / w)) output

  -- each of some blocks drawn from a picture, at a setting
  abbrev pub put_all : Clarity → List ℕ → List ℕ → List ℕ → List ℕ
  put_all clarity picture [] output = output
  put_all clarity picture (b ∷ bs) output = put_all clarity picture bs (put_block clarity picture b output)

  -- the words of block (bx, by) in the output, row by row
  abbrev pub block_at : ℕ → ℕ → List ℕ → List ℕ
  block_at bx by output = table (block_words S) (λ k. get_or output (place S w bx by k) 0)

  -- ---- opening, at a setting: all blocks stale, output words 0, nothing locked
  abbrev pub opened : Clarity → List ℕ → State
  opened clarity picture = record {
    picture = picture;
    stale = replicate (w * h) true;
    output = replicate (block_words S * (w * h)) 0;
    lock = no_lock;
    clarity = clarity;
  }

  -- ---- a paint of another word: it is stored, and the blocks that the paint names become stale
  abbrev pub store : ℕ → ℕ → ℕ → State → State
  store column row word s = record {
    picture = set s.picture (row * w + column) word;
    stale = stamp (names column row) true s.stale;
    output = s.output;
    lock = s.lock;
    clarity = s.clarity;
  }

  -- ---- the first k stale blocks in row order drawn from the present picture, and not stale
  abbrev pub redraw : ℕ → State → State
  redraw k s = record {
    picture = s.picture;
    stale = set_all (first k s.stale) false s.stale;
    output = put_all s.clarity s.picture (first k s.stale) s.output;
    lock = s.lock;
    clarity = s.clarity;
  }

  -- ---- a call: the state after it, and its answer. Of the refusals only 5, 7, 10 of a lock that is given, 11 and 12 are the machine's:
  -- the opening was not refused, so the sides are within their limit and the setting is lawful, the machine takes no lock that reaches past
  -- the picture, and it has no buffer that could be short.

  -- a paint
  abbrev pub paint : ℕ → ℕ → ℕ → State → State × Answer
  paint column row word s =
      cond (inside w h column row)
      (cond (eqb word (get_or s.picture (row * w + column) 0))
      (s, Painted 0 0 (count s.stale))
      (cond (locked s.lock column row)
      (s, Painted refusal.locked 0 0)
      (store column row word s, Painted 0 1 (count (store column row word s).stale))))
      (s, Painted refusal.outside 0 0)

  -- the items of a list, one after another, each as a paint: the state after them, and the number of the first that is refused, 0 for none
  abbrev pub paints : List Item → State → State × ℕ
  paints [] s = (s, 0)
  paints (i ∷ is) s =
      let first = paint i.column i.row i.word s in
      let rest = paints is first.0 in
      (rest.0, or_else (number_of first.1) rest.1)

  -- a paint list is its items with one answer, or nothing but its number
  abbrev pub paint_list : List Item → State → State × Answer
  paint_list items s =
      let end = paints items s in
      let r = cond (ltb limit (length items)) refusal.items end.1 in
      cond (eqb r 0) (end.0, PaintedList 0 (count end.0.stale)) (s, PaintedList r 0)

  abbrev pub step : Call → State → State × Answer
  step (Paint column row word) s = paint column row word s
  step (PaintList items) s = paint_list items s
  step (Refresh n) s =
      let k = min n (count s.stale) in
      (redraw k s, Refreshed 0 k (count (redraw k s).stale))
  step (Show bx by) s = (
    s,
    cond (inside w h bx by)
        (cond (get_or s.stale (by * w + bx) true) (Shown refusal.stale (replicate (block_words S) 0)) (Shown 0 (block_at bx by s.output)))
        (Shown refusal.outside (replicate (block_words S) 0)),
  )
  step (Lock r) s = cond (past w h r) (s, Locked refusal.lock no_header) (relock r s, Locked 0 (header_of w h (relock r s)))

  -- ---- a list of calls: the state after it, and the answer of each call in its place
  abbrev pub after : List Call → State → State
  after [] s = s
  after (c ∷ cs) s = after cs (step c s).0

  abbrev pub answers : List Call → State → List Answer
  answers [] s = []
  answers (c ∷ cs) s = (step c s).1 ∷ answers cs (step c s).0
