-- What is claimed of sessions beside demand 3: of a paint list's items, of a lock, of the calls that enlarge a picture whole, and how many
-- blocks a paint names. For a screen; definitions only.
use Rattle.std.specs.Prelude.{◌≡◌, true, false, List, [], ◌∷◌, ℕ, ◌+◌, ◌*◌, ◌<◌, length, get_or, take}
use Rattle.clarity.specs.declared.Clarity.{Clarity}
use Rattle.header.specs.declared.Header.{Header}
use Rattle.header.specs.Header.{locked}
use Rattle.paints.specs.declared.Paint.{Paint as Item}
use Rattle.machine.specs.Lists.{count, table}
use Rattle.machine.specs.Screen.{Screen, block_words}
use Rattle.machine.specs.Machine.{Call, Paint, PaintList, Refresh, Show, Answer, names, block_at, after}
use Rattle.machine.specs.Calls.{refusal_list, items_end}
use Rattle.machine.specs.Items.{refusal_items}
use Rattle.machine.specs.Demand3.{Buffers, Ran, Trace, started, left}

-- a paint list's number, each item being refused at its turn, on the picture as the items before it leave it, is its number with every item
-- held to the picture at the list's start: so the call may decide before it writes
pub record ItemsAtStart (S : Screen) : Type 0 where
  pub number_at_start : (header : Header) (p m : List ℕ) (items : List Item) (n : ℕ)
      → refusal_list S.side header (length p) (length m) n (items_end S header items p m).refusal
      ≡ refusal_list S.side header (length p) (length m) n (refusal_items header p items)

-- a list of calls without a lock
pub data LocksNothing : List Call → Type 0 where
  none : LocksNothing []
  paint : {cs : List Call} {column row word : ℕ} → LocksNothing cs → LocksNothing (Paint column row word ∷ cs)
  paint_list : {cs : List Call} {items : List Item} → LocksNothing cs → LocksNothing (PaintList items ∷ cs)
  refresh : {cs : List Call} {n : ℕ} → LocksNothing cs → LocksNothing (Refresh n ∷ cs)
  show : {cs : List Call} {bx by : ℕ} → LocksNothing cs → LocksNothing (Show bx by ∷ cs)

-- from wherever a list ended: what its last header locks, a further list without a lock leaves in the picture buffer as it was
pub record LockedStays (S : Screen) : Type 0 where
  pub locked_stays : {w h stale : ℕ} {c : Clarity} {b e e' : Buffers} {cs more : List Call} {rs rs' : List Answer} {last last' : Header}
      → Trace S w h c b stale cs rs last e → LocksNothing more → Ran S last e more rs' last' e'
      → (column row : ℕ) → locked last.lock column row ≡ true
      → get_or e'.picture (row * w + column) 0 ≡ get_or e.picture (row * w + column) 0

-- a call that enlarges a picture whole, lent the picture buffer p at the setting c, is not refused, and what it leaves in its output
pub record Leaves (Enlarges : Clarity → ℕ → ℕ → List ℕ → List ℕ → Type 0) (c : Clarity) (w h : ℕ) (p : List ℕ) : Type 0 where
  pub output : List ℕ
  pub enlarges : Enlarges c w h p output

-- Enlarges c w h p o: such a call leaves the output o
pub record AsEnlarged (S : Screen) (Enlarges : Clarity → ℕ → ℕ → List ℕ → List ℕ → Type 0) : Type 0 where
  -- wherever a list ends, such a call is not refused, lent the session's own picture buffer at the opening's setting
  pub not_refused : {w h stale : ℕ} {c : Clarity} {b e : Buffers} {cs : List Call} {rs : List Answer} {last : Header}
      → Trace S w h c b stale cs rs last e → Leaves Enlarges c w h e.picture
  -- a block that is not stale shows what it puts there
  pub shows_scaled : {w h stale : ℕ} {c : Clarity} {b e : Buffers} {cs : List Call} {rs : List Answer} {last : Header} {o : List ℕ}
      → Trace S w h c b stale cs rs last e → Enlarges c w h e.picture o
      → (bx by : ℕ) → bx < w → by < h → get_or (after S w h cs (started S w h c b)).stale (by * w + bx) true ≡ false
      → block_at S w h bx by e.output ≡ block_at S w h bx by o
  -- and where nothing is stale, the session holds all that it writes
  pub ends_scaled : {w h stale : ℕ} {c : Clarity} {b e : Buffers} {cs : List Call} {rs : List Answer} {last : Header} {o : List ℕ}
      → Trace S w h c b stale cs rs last e → Enlarges c w h e.picture o → left S w h e ≡ 0
      → take (block_words S * (w * h)) e.output ≡ take (block_words S * (w * h)) o

-- how many blocks a changing paint at (column, row) names in a picture of 32 by 32
abbrev pub named : Screen → ℕ → ℕ → ℕ
named S column row = count (table (32 * 32) (names S 32 32 column row))

-- away from the borders, in the first corner and in the last
pub record Named (S : Screen) (away first last : ℕ) : Type 0 where
  pub at_10_10 : named S 10 10 ≡ away
  pub at_0_0 : named S 0 0 ≡ first
  pub at_31_31 : named S 31 31 ≡ last
