-- What each call leaves in the buffers that it is lent and what it answers, for every header,
-- every length and every contents. Definitions only.
use Rattle.std.specs.Prelude.{◌≡◌, Bool, cond, ◌||◌, not, List, [], ◌∷◌, ◌++◌, map, ℕ, ◌+◌, ◌*◌, min, ltb, eqb, length, get_or, set, take, drop, replicate}
use Rattle.picture.specs.Refusal as refusal
use Rattle.clarity.specs.declared.Clarity.{Clarity}
use Rattle.clarity.specs.Clarity.{lawful_of}
use Rattle.header.specs.declared.Rectangle.{Rectangle}
use Rattle.header.specs.declared.Header.{Header}
use Rattle.header.specs.Header.{locked, past, fresh, with_lock, no_header}
use Rattle.paints.specs.declared.Paint.{Paint}
use Rattle.paints.specs.Paints.{limit}
use Rattle.machine.specs.Lists.{stamp, set_all, count, first}
use Rattle.machine.specs.Screen.{Screen, block_words}
use Rattle.machine.specs.Machine.{or_else, inside, names, put_all, block_at}

-- a mark byte of 0 means not stale, any other stale
abbrev pub is_stale : ℕ → Bool
is_stale m = not (eqb m 0)

-- which of the first n blocks are stale, by their marks
abbrev pub stale_of : ℕ → List ℕ → List Bool
stale_of n marks = map is_stale (take n marks)

-- ---- what each call leaves and answers

pub record OpenEnd : Type 0 where
  pub output : List ℕ
  pub marks : List ℕ
  pub refusal : ℕ
  pub header : Header
  pub stale : ℕ

pub record PaintEnd : Type 0 where
  pub picture : List ℕ
  pub marks : List ℕ
  pub refusal : ℕ
  pub changed : ℕ
  pub stale : ℕ

-- of some items of a list: refusal is the number of the first that is refused
pub record ItemsEnd : Type 0 where
  pub picture : List ℕ
  pub marks : List ℕ
  pub refusal : ℕ

pub record PaintListEnd : Type 0 where
  pub picture : List ℕ
  pub marks : List ℕ
  pub refusal : ℕ
  pub stale : ℕ

pub record RefreshEnd : Type 0 where
  pub output : List ℕ
  pub marks : List ℕ
  pub refusal : ℕ
  pub drawn : ℕ
  pub left : ℕ

pub record ShowEnd : Type 0 where
  pub refusal : ℕ
  pub words : List ℕ

pub record LockEnd : Type 0 where
  pub refusal : ℕ
  pub header : Header

-- ---- refusals, in the order of their checks: side is the screen's limit of a side, words how many words a block has; p, o and m are the
-- lengths of the picture, the output and the marks

abbrev pub side_long : ℕ → ℕ → ℕ → Bool
side_long side w h = ltb side w || ltb side h

-- of every call, by the header that it is lent: 1, then 10; where neither is so, next decides
abbrev pub refusal_header : ℕ → Header → ℕ → ℕ
refusal_header side header next =
    cond (side_long side header.w header.h) refusal.side (cond (past header.w header.h header.lock) refusal.lock next)

-- of every call, after its buffers, by the header's setting: 13; where that is lawful, next decides
abbrev pub refusal_clarity : Header → ℕ → ℕ
refusal_clarity header next = cond (not (lawful_of header.clarity)) refusal.clarity next

module _ (side words : ℕ) (header : Header) where
  -- of a call that is lent all three buffers: opening, for the header that it is to answer, and refresh
  abbrev pub refusal_all : ℕ → ℕ → ℕ → ℕ
  refusal_all p o m =
      let n = header.w * header.h in
      refusal_header side header
      (cond (ltb p n) refusal.picture
      (cond (ltb o (words * n)) refusal.output
      (cond (ltb m n) refusal.scratch
      (refusal_clarity header refusal.none))))

  -- of show, which looks at the block's mark too
  abbrev pub refusal_show : ℕ → List ℕ → ℕ → ℕ → ℕ
  refusal_show o marks bx by =
      let n = header.w * header.h in
      refusal_header side header
      (cond (ltb o (words * n)) refusal.output
      (cond (ltb (length marks) n) refusal.scratch
      (refusal_clarity header
      (cond (inside header.w header.h bx by)
      (cond (is_stale (get_or marks (by * header.w + bx) 0)) refusal.stale refusal.none)
      refusal.outside))))

-- of one paint, by its position and the word that is there: an equal one is not refused, be it locked or not
abbrev pub refusal_word : Header → List ℕ → ℕ → ℕ → ℕ → ℕ
refusal_word header picture column row word =
    cond (inside header.w header.h column row)
    (cond (eqb word (get_or picture (row * header.w + column) 0)) refusal.none
    (cond (locked header.lock column row) refusal.locked refusal.none))
    refusal.outside

module _ (side : ℕ) (header : Header) where
  -- of a call that is lent picture and marks, and no output; where neither their lengths nor the setting refuse it, next decides
  abbrev pub refusal_lent : ℕ → ℕ → ℕ → ℕ
  refusal_lent p m next =
      let n = header.w * header.h in
      refusal_header side header (cond (ltb p n) refusal.picture (cond (ltb m n) refusal.scratch (refusal_clarity header next)))

  -- of paint
  abbrev pub refusal_paint : List ℕ → ℕ → ℕ → ℕ → ℕ → ℕ
  refusal_paint picture m column row word = refusal_lent (length picture) m (refusal_word header picture column row word)

  -- of a list of n items, of which the first that is refused at its turn has the number own, 0 for none
  abbrev pub refusal_list : ℕ → ℕ → ℕ → ℕ → ℕ
  refusal_list p m n own = refusal_lent p m (cond (ltb limit n) refusal.items own)

  -- of a lock, which is lent the header alone and given a rectangle
  abbrev pub refusal_lock : Rectangle → ℕ
  refusal_lock lock =
      refusal_header side header (cond (past header.w header.h lock) refusal.lock (refusal_clarity header refusal.none))

-- ---- opening, at a setting: output words 0 and marks 1, as many as the picture asks for
unfoldable pub open_end : Screen → ℕ → ℕ → Clarity → List ℕ → List ℕ → List ℕ → OpenEnd
open_end S w h clarity picture output marks =
    let r = refusal_all S.side (block_words S) (fresh w h clarity) (length picture) (length output) (length marks) in
    cond (eqb r 0)
    (record {
      output = replicate (block_words S * (w * h)) 0 ++ drop (block_words S * (w * h)) output;
      marks = replicate (w * h) 1 ++ drop (w * h) marks;
      refusal = 0;
      header = fresh w h clarity;
      stale = w * h;
    })
    (record { output = output; marks = marks; refusal = r; header = no_header; stale = 0 })

module _ (S : Screen) (header : Header) where
  -- ---- paint: an equal word alters nothing; another is stored, with 1 at the mark of each block that the paint names
  unfoldable pub paint_end : List ℕ → List ℕ → ℕ → ℕ → ℕ → PaintEnd
  paint_end picture marks column row word =
      let w = header.w in
      let h = header.h in
      let r = refusal_paint S.side header picture (length marks) column row word in
      let at = row * w + column in
      let marked = stamp (names S w h column row) 1 marks in
      cond (eqb r 0)
      (cond (eqb word (get_or picture at 0))
      (record { picture = picture; marks = marks; refusal = 0; changed = 0; stale = count (stale_of (w * h) marks) })
      (record { picture = set picture at word; marks = marked; refusal = 0; changed = 1; stale = count (stale_of (w * h) marked) }))
      (record { picture = picture; marks = marks; refusal = r; changed = 0; stale = 0 })

  -- ---- the items of a paint list, one after another, each as a single paint
  abbrev pub items_end : List Paint → List ℕ → List ℕ → ItemsEnd
  items_end [] picture marks = record { picture = picture; marks = marks; refusal = 0 }
  items_end (i ∷ is) picture marks =
      let first = paint_end picture marks i.column i.row i.word in
      let rest = items_end is first.picture first.marks in
      record { picture = rest.picture; marks = rest.marks; refusal = or_else first.refusal rest.refusal }

  -- ---- a paint list: what its items leave, with the stale count after them, or nothing at all
  unfoldable pub paint_list_end : List ℕ → List ℕ → List Paint → PaintListEnd
  paint_list_end picture marks items =
      let end = items_end items picture marks in
      let r = refusal_list S.side header (length picture) (length marks) (length items) end.refusal in
      cond (eqb r 0)
      (record { picture = end.picture; marks = end.marks; refusal = 0; stale = count (stale_of (header.w * header.h) end.marks) })
      (record { picture = picture; marks = marks; refusal = r; stale = 0 })

  -- ---- refresh: the first stale blocks in row order, n of them or all, drawn from the picture by the header's setting, with 0 at their
  -- marks
  unfoldable pub refresh_end : List ℕ → List ℕ → List ℕ → ℕ → RefreshEnd
  refresh_end picture output marks n =
      let w = header.w in
      let h = header.h in
      let r = refusal_all S.side (block_words S) header (length picture) (length output) (length marks) in
      let k = min n (count (stale_of (w * h) marks)) in
      let blocks = first k (stale_of (w * h) marks) in
      let cleared = set_all blocks 0 marks in
      cond (eqb r 0)
      (record {
        output = put_all S w h header.clarity (take (w * h) picture) blocks output;
        marks = cleared;
        refusal = 0;
        drawn = k;
        left = count (stale_of (w * h) cleared);
      })
      (record { output = output; marks = marks; refusal = r; drawn = 0; left = 0 })

  -- ---- show: the block's words in the output; nothing alters
  unfoldable pub show_end : List ℕ → List ℕ → ℕ → ℕ → ShowEnd
  show_end output marks bx by =
      let r = refusal_show S.side (block_words S) header (length output) marks bx by in
      cond (eqb r 0) (record { refusal = 0; words = block_at S header.w header.h bx by output })
      (record { refusal = r; words = replicate (block_words S) 0 })

  -- ---- lock: the header with the rectangle that is given, as it is given
  unfoldable pub lock_end : Rectangle → LockEnd
  lock_end lock =
      let r = refusal_lock S.side header lock in
      cond (eqb r 0) (record { refusal = 0; header = with_lock header lock }) (record { refusal = r; header = no_header })

-- ---- the calls' contracts: from the buffers at entry, what is left and answered is e

pub record Opens (S : Screen) (w h : ℕ) (clarity : Clarity) (picture output marks : List ℕ) (e : OpenEnd) : Type 0 where
  pub is : e ≡ open_end S w h clarity picture output marks

module _ (S : Screen) (header : Header) where
  pub record Paints (picture marks : List ℕ) (column row word : ℕ) (e : PaintEnd) : Type 0 where
    pub is : e ≡ paint_end S header picture marks column row word

  pub record PaintLists (picture marks : List ℕ) (items : List Paint) (e : PaintListEnd) : Type 0 where
    pub is : e ≡ paint_list_end S header picture marks items

  pub record Refreshes (picture output marks : List ℕ) (n : ℕ) (e : RefreshEnd) : Type 0 where
    pub is : e ≡ refresh_end S header picture output marks n

  pub record Shows (output marks : List ℕ) (bx by : ℕ) (e : ShowEnd) : Type 0 where
    pub is : e ≡ show_end S header output marks bx by

  pub record Locks (lock : Rectangle) (e : LockEnd) : Type 0 where
    pub is : e ≡ lock_end S header lock
