-- What the opening, the show and the lock promise, by the screen's own numbers: of a call that is refused and of one that is not. Assumes
-- nothing.
use mathlib.Core.Path.{◌≡◌, refl, sym, ap, ◌∙◌}
use mathlib.Core.List.{List, ◌++◌}
use Prim.Native.Nat.{ℕ, ◌*◌, ◌≤◌}
use lib.ListN.{length, take, drop, replicate}
use Rattle.std.proofs.lemmas.List.{length-take-le}
use Rattle.picture.specs.declared.refusal.Refusal.{Refusal}
use Rattle.picture.specs.Answer.{number_of}
use Rattle.clarity.specs.declared.Clarity.{Clarity}
use Rattle.header.specs.declared.Rectangle.{Rectangle}
use Rattle.header.specs.declared.Header.{Header}
use Rattle.header.specs.Header.{fresh, with_lock, no_header}
use Rattle.machine.specs.Lists.{stamp}
use Rattle.machine.specs.Screen.{block_words}
use Rattle.machine.specs.Machine.{block_at}
use Rattle.machine.specs.Calls.{refusal_all, refusal_show, refusal_lock, Opens, Shows, Locks}
use Rattle.marks.specs.Marks.{run}
use Rattle.marks.proofs.Box.{run_start}
use Rattle.machine.proofs.Ends.{lent, open_refused, open_done, show_refused, show_done, lock_refused, lock_done}
use Rattle.refusals.proofs.Numbers.{numbered}
use Rattle.screens.specs.Screens.{screen_of}

module _ (scale : ℕ) (side : ℕ) (by_side : side ≡ (screen_of scale).side) where
  module _ (each : ℕ) (by_words : each ≡ block_words (screen_of scale)) where
    module _ (w h : ℕ) (clarity : Clarity) (p o m : List ℕ) (header : Header) (is : header ≡ fresh w h clarity) where
      all_of : (r : ℕ) → r ≡ refusal_all side each header (length p) (length o) (length m)
          → r ≡ refusal_all (screen_of scale).side (block_words (screen_of scale)) (fresh w h clarity) (length p) (length o) (length m)
      all_of r q = q ∙ (λ i. refusal_all (by_side i) (by_words i) (is i) (length p) (length o) (length m))

      pub open_told : (e : Refusal) → number_of e ≡ refusal_all side each header (length p) (length o) (length m)
          → Opens (screen_of scale) w h clarity p o m
          (record { output = o; marks = m; refusal = number_of e; header = no_header; stale = 0 })
      open_told e q = open_refused (screen_of scale) w h clarity p o m (number_of e) (all_of (number_of e) q) (numbered e)

      -- the first n blocks' words are made 0, and their marks 1, n being how many blocks there are
      pub open_taken : 0 ≡ refusal_all side each header (length p) (length o) (length m) → (n : ℕ) → n ≡ w * h → (f m' : List ℕ)
          → f ≡ replicate (length (take (each * n) o)) 0 → m' ≡ stamp (run 0 n) 1 m
          → Opens (screen_of scale) w h clarity p o m
          (record { output = f ++ drop (each * n) o; marks = m'; refusal = 0; header = header; stale = w * h })
      open_taken q n en f m' ef em =
          let room = lent (screen_of scale) (fresh w h clarity) (length p) (length o) (length m) (sym (all_of 0 q)) in
          let fits : each * n ≤ length o = rw (by_words, en) room.for_output in
          let filled : f ≡ replicate (each * n) 0 = ef ∙ ap (λ (k : ℕ). replicate k 0) (length-take-le (each * n) o fits) in
          rw is
          (open_done (screen_of scale) w h clarity p o m 0 (all_of 0 q) refl (f ++ drop (each * n) o) m'
          ((λ i. filled i ++ drop (each * n) o) ∙ (λ i. replicate (by_words i * en i) 0 ++ drop (by_words i * en i) o))
          (em ∙ ap (λ (k : ℕ). stamp (run 0 k) 1 m) en ∙ run_start (w * h) m room.for_marks))

    module _ (header : Header) (o m : List ℕ) (bx by : ℕ) where
      show_of : (r : ℕ) → r ≡ refusal_show side each header (length o) m bx by
          → r ≡ refusal_show (screen_of scale).side (block_words (screen_of scale)) header (length o) m bx by
      show_of r q = q ∙ (λ i. refusal_show (by_side i) (by_words i) header (length o) m bx by)

      pub show_told : (e : Refusal) (ws : List ℕ) → ws ≡ replicate (block_words (screen_of scale)) 0
          → number_of e ≡ refusal_show side each header (length o) m bx by
          → Shows (screen_of scale) header o m bx by (record { refusal = number_of e; words = ws })
      show_told e ws z q = show_refused (screen_of scale) header o m bx by (number_of e) (show_of (number_of e) q) (numbered e) ws z

      pub show_taken : (ws : List ℕ) → 0 ≡ refusal_show side each header (length o) m bx by
          → ws ≡ block_at (screen_of scale) header.w header.h bx by o
          → Shows (screen_of scale) header o m bx by (record { refusal = 0; words = ws })
      show_taken ws q e = show_done (screen_of scale) header o m bx by 0 (show_of 0 q) refl ws e

  module _ (header : Header) (lock : Rectangle) where
    lock_of : (r : ℕ) → r ≡ refusal_lock side header lock → r ≡ refusal_lock (screen_of scale).side header lock
    lock_of r q = q ∙ ap (λ (s : ℕ). refusal_lock s header lock) by_side

    pub lock_told : (e : Refusal) → number_of e ≡ refusal_lock side header lock
        → Locks (screen_of scale) header lock (record { refusal = number_of e; header = no_header })
    lock_told e q = lock_refused (screen_of scale) header lock (number_of e) (lock_of (number_of e) q) (numbered e)

    pub lock_taken : (locked : Header) → 0 ≡ refusal_lock side header lock → locked ≡ with_lock header lock
        → Locks (screen_of scale) header lock (record { refusal = 0; header = locked })
    lock_taken locked q e = rw e (lock_done (screen_of scale) header lock 0 (lock_of 0 q) refl)
