-- What a lock is for: the words inside it stay through every list of calls without a lock, whatever it paints. Assumes nothing.
use mathlib.Core.Path.{◌≡◌, refl, sym, ap, ap₂, ◌∙◌}
use mathlib.Core.Bool.{true, false, true≢false}
use mathlib.Core.List.{List}
use Prim.Native.Nat.{ℕ, ◌+◌, ◌*◌, ◌<◌}
use native.Mathlib.Omega.{arith}
use lib.ListN.{get_or, drop, get_or-append}
use lib.Seq.{get_or-set_other}
use Rattle.clarity.specs.declared.Clarity.{Clarity}
use Rattle.header.specs.declared.Header.{Header}
use Rattle.header.specs.Header.{locked}
use Rattle.header.proofs.Laws.{locked_inside}
use Rattle.machine.specs.Screen.{Screen, Lawful}
use Rattle.machine.specs.Machine.{State, Call, Paint, PaintList, Refresh, Answer, store, step, after}
use Rattle.machine.specs.Claims.{LocksNothing, none, paint, paint_list, refresh, show, LockedStays}
use Rattle.machine.specs.Demand3.{Buffers, Ran, Trace}
use Rattle.machine.proofs.Places.{block_lt, digits_same}
use Rattle.machine.proofs.Good.{Good}
use Rattle.machine.proofs.Demand3.{good_step, good_after, met, good_met, more, ended}
use Rattle.machine.proofs.Items.{by_paint, by_list}

module _ (S : Screen) (L : Lawful S) (w h column row : ℕ) where
  -- the word at (column, row)
  abbrev word_of : State → ℕ
  word_of s = get_or s.picture (row * w + column) 0

  -- the lock and the word of t are those of s
  abbrev Kept : State → State → Type 0
  Kept s t = (t.lock ≡ s.lock) × (word_of t ≡ word_of s)

  store_kept : (s : State) → Good S w h s → locked s.lock column row ≡ true
      → (x y word : ℕ) (t : State) → Kept s t → x < w → y < h → locked t.lock x y ≡ false → Kept s (store S w h x y word t)
  store_kept s g e x y word t k c r f = (
    k.0,
    get_or-set_other t.picture (y * w + x) (row * w + column) word 0
        (λ q. let d = digits_same row y w column x (locked_inside s.lock w h column row g.lock_inside e).0 c q in
        true≢false (sym e ∙ ap₂ (locked s.lock) d.1 d.0 ∙ ap (λ l. locked l x y) (sym k.0) ∙ f))
        ∙ k.1,
  )

  locked_kept : {cs : List Call} → LocksNothing cs → (s : State) → Good S w h s → locked s.lock column row ≡ true
      → word_of (after S w h cs s) ≡ word_of s
  locked_kept none s g e = refl
  locked_kept (paint {column = x} {row = y} {word = word} n) s g e =
      let k = by_paint S L w h (Kept s) x y word s (refl, refl) (store_kept s g e x y word s (refl, refl)) in
      locked_kept n (step S w h (Paint x y word) s).0 (good_step S L w h (Paint x y word) s g) (ap (λ l. locked l column row) k.0 ∙ e) ∙ k.1
  locked_kept (paint_list {items = items} n) s g e =
      let k = by_list S L w h (Kept s) (store_kept s g e) items s (refl, refl) in
      locked_kept n (step S w h (PaintList items) s).0 (good_step S L w h (PaintList items) s g) (ap (λ l. locked l column row) k.0 ∙ e) ∙ k.1
  locked_kept (refresh {n = n} r) s g e = locked_kept r (step S w h (Refresh n) s).0 (good_step S L w h (Refresh n) s g) e
  locked_kept (show r) s g e = locked_kept r s g e

-- from wherever a list ended
module _ (S : Screen) (L : Lawful S) {w h stale : ℕ} {c : Clarity} {b e : Buffers} {cs : List Call} {rs : List Answer} {last : Header}
    (t : Trace S w h c b stale cs rs last e) where
  kept_through : {more_calls : List Call} {rs' : List Answer} {last' : Header} {e' : Buffers} → LocksNothing more_calls
      → Ran S last e more_calls rs' last' e' → (column row : ℕ) → locked last.lock column row ≡ true
      → get_or e'.picture (row * w + column) 0 ≡ get_or e.picture (row * w + column) 0
  kept_through {more_calls} n r column row k =
      let m = met S L w h c b t in
      let g = good_met S L w h c b t in
      let now = ended S L w h c b t in
      let then = more S L w h c b t r m g now.0 now.1 in
      let e : locked m.lock column row ≡ true = ap (λ (header : Header). locked header.lock column row) (sym now.0) ∙ k in
      let i = locked_inside m.lock w h column row g.lock_inside e in
      let at : row * w + column < w * h = block_lt i.0 i.1 in
      let end : State = after S w h more_calls m in
      ap (λ (d : Buffers). get_or d.picture (row * w + column) 0) then.1
      ∙ get_or-append end.picture (drop (w * h) b.picture) 0 (row * w + column)
      (omega (arith, at, (good_after S L w h more_calls m g).picture_length))
      ∙ locked_kept S L w h column row n m g e
      ∙ sym (get_or-append m.picture (drop (w * h) b.picture) 0 (row * w + column) (omega (arith, at, g.picture_length)))
      ∙ ap (λ (d : Buffers). get_or d.picture (row * w + column) 0) (sym now.1)

pub locked_stays : (S : Screen) → Lawful S → LockedStays S
locked_stays S L = record { locked_stays = λ t n r column row k. kept_through S L t n r column row k }
