-- Byte 0 holds the last command taken, and byte 14 the last command's refusal or 0. Assumes nothing.
use mathlib.Core.Path.{◌≡◌, refl, sym, ap, ap₂, ◌∙◌}
use mathlib.Core.Bool.{Bool, true, false, cond, true≢false}
use mathlib.Core.List.{List, [], ◌∷◌, ◌++◌}
use Prim.Native.Nat.{ℕ, ◌<◌, min}
use native.Mathlib.Omega.{arith}
use lib.Dec.{eqb}
use lib.ListN.{length, set, length-set}
use lib.Seq.{get_or-set_same}
use borrow.Author.Tests.{eqb-true}
use Rattle.header.specs.declared.Rectangle.{Rectangle}
use Rattle.header.specs.Header.{past, no_header}
use Rattle.machine.specs.Lists.{count}
use Rattle.machine.specs.Screen.{Screen}
use Rattle.machine.specs.Machine.{State, Call, Paint, Refresh, Lock, Answer, Painted, PaintedList, Refreshed, Shown, Locked}
use Rattle.machine.specs.Machine.{store, redraw, header_of, relock, step, after, answers}
use Rattle.registers.specs.Registers.{byte, two_bytes, four_bytes, cleared, status_of, is_paint, is_refresh, empties, with_answer, with_raised, with_flags, with_mask, with_byte, after_paint, after_refresh, refusal_write}
use Rattle.registers.proofs.Bytes.{set_keeps, flags_keep, mask_keeps, raised_length, inner_write}
use Rattle.registers_machine.specs.Device.{after_answer, Event, Write, Read, LockCall, Reply, Written, Device, write_byte, lock_call, ends, calls_at, calls_of, last_command, last_refusal}
use Rattle.registers_machine.proofs.Answers.{no_command, paint_cases}
use Rattle.registers_machine.proofs.Kept.{Kept, kept_write, calls_same, session_write}

-- ---- what a command's answer leaves there

answer_command : (r : List ℕ) (v f n : ℕ) → length r ≡ 16 → byte (with_answer r v f n) 0 ≡ v
answer_command r v f n g =
    let s = status_of (byte r 1) f n in
    set_keeps (set (set r 0 v) 1 s) 14 f 0 (λ q. omega arith) ∙ set_keeps (set r 0 v) 1 s 0 (λ q. omega arith)
    ∙ get_or-set_same r 0 v 0 (omega arith)

answer_refusal : (r : List ℕ) (v f n : ℕ) → length r ≡ 16 → byte (with_answer r v f n) 14 ≡ f
answer_refusal r v f n g =
    let s = status_of (byte r 1) f n in
    get_or-set_same (set (set r 0 v) 1 s) 14 f 0 (omega (arith, length-set (set r 0 v) 1 s, length-set r 0 v))

stored_keeps : (r : List ℕ) (a v k : ℕ) → 1 < a → a < 14 → (k ≡ a → ⊥) → (k ≡ 2 → ⊥) → (k ≡ 3 → ⊥) → (k ≡ 15 → ⊥) → byte (with_byte r a v) k ≡ byte r k
unfolding with_byte
stored_keeps r a v k i j n m l o = by_tests (eqb a 2) (eqb a 3)
  where
    by_tests : (t u : Bool) → byte (cond t (with_flags r (cleared (byte r 2) v)) (cond u (with_mask r v) (set r a v))) k ≡ byte r k
    by_tests true u = flags_keep r (cleared (byte r 2) v) k m o
    by_tests false true = mask_keeps r v k l o
    by_tests false false = set_keeps r a v k n

module _ (S : Screen) (w h : ℕ) where
  -- a paint's answer is with_answer as a paint, a refresh's as a refresh
  paint_sets : (column row word : ℕ) (s : State) (r : List ℕ) (n : ℕ) → length r ≡ 16
      → (byte (after_answer r n (step S w h (Paint column row word) s).1) 0 ≡ 1)
      × (byte (after_answer r n (step S w h (Paint column row word) s).1) 14 ≡ last_refusal (byte r 14) ((step S w h (Paint column row word) s).1 ∷ []))
  unfolding after_paint
  paint_sets column row word s r n g =
      paint_cases S w h column row word s
      (λ t. (byte (after_answer r n t.1) 0 ≡ 1) × (byte (after_answer r n t.1) 14 ≡ last_refusal (byte r 14) (t.1 ∷ [])))
      (both 0 (count s.stale)) (λ f z. both f 0) (both 0 (count (store S w h column row word s).stale))
    where
      both : (f m : ℕ) → (byte (with_answer r 1 f m) 0 ≡ 1) × (byte (with_answer r 1 f m) 14 ≡ f)
      both f m = (answer_command r 1 f m g, answer_refusal r 1 f m g)

  refresh_sets : (n : ℕ) (s : State) (r : List ℕ) → length r ≡ 16
      → (byte (after_answer r (count s.stale) (step S w h (Refresh n) s).1) 0 ≡ 2) × (byte (after_answer r (count s.stale) (step S w h (Refresh n) s).1) 14 ≡ 0)
  unfolding after_refresh
  refresh_sets n s r g =
      let m = count (redraw S w h (min n (count s.stale)) s).stale in
      let t = empties 0 (count s.stale) m in
      let l : length (with_raised t r) ≡ 16 = raised_length t r ∙ g in
      (answer_command (with_raised t r) 2 0 m l, answer_refusal (with_raised t r) 2 0 m l)

  -- ---- a write

  write_sets : (a v : ℕ) (f : Device) → length f.registers ≡ 16
      → (byte (write_byte S w h a v f).0.registers 0 ≡ last_command (byte f.registers 0) (Write a v ∷ []))
      × (byte (write_byte S w h a v f).0.registers 14
      ≡ last_refusal (byte f.registers 14) (answers S w h (calls_at f.registers a v) f.session))
  write_sets a v f g = by_tests (eqb (refusal_write a v) 0) refl (eqb a 0) refl (is_paint v) refl
    where
      s : State
      s = f.session

      r : List ℕ
      r = f.registers

      call : Bool → Call
      call z = cond z (Paint (two_bytes r 4) (two_bytes r 6) (four_bytes r 8)) (Refresh (two_bytes r 12))

      did : Bool → Bool → Bool → Device × Reply
      did x y z =
          cond x
          (cond y (record { session = (step S w h (call z) s).0; registers = after_answer r (count s.stale) (step S w h (call z) s).1 }, Written 0)
          (record { session = s; registers = with_byte r a v }, Written 0))
          (f, Written 15)

      Claim : Bool → Bool → Bool → Type 0
      Claim x y z =
          (byte (did x y z).0.registers 0 ≡ cond x (cond y v (byte r 0)) (byte r 0))
          × (byte (did x y z).0.registers 14 ≡ last_refusal (byte r 14) (answers S w h (cond x (cond y (call z ∷ []) []) []) s))

      by_tests : (x : Bool) → eqb (refusal_write a v) 0 ≡ x → (y : Bool) → eqb a 0 ≡ y → (z : Bool) → is_paint v ≡ z → Claim x y z
      by_tests true ex true ey true ez =
          let t = paint_sets (two_bytes r 4) (two_bytes r 6) (four_bytes r 8) s r (count s.stale) g in (t.0 ∙ sym (eqb-true v 1 ez), t.1)
      by_tests true ex true ey false ez = let t = refresh_sets (two_bytes r 12) s r g in (t.0 ∙ sym (two_is (is_refresh v) refl), t.1)
        where
          two_is : (u : Bool) → is_refresh v ≡ u → v ≡ 2
          two_is true e = eqb-true v 2 e
          two_is false e = absurd (true≢false (sym ex ∙ no_command a v ey ez e))
      by_tests true ex false ey z ez =
          let i = inner_write a v ex ey in (
            stored_keeps r a v 0 i.0 i.1 (λ q. omega (arith, i.0)) (λ q. omega arith) (λ q. omega arith) (λ q. omega arith),
            stored_keeps r a v 14 i.0 i.1 (λ q. omega (arith, i.1)) (λ q. omega arith) (λ q. omega arith) (λ q. omega arith),
          )
      by_tests false ex y ey z ez = (refl, refl)

  -- ---- a list

  refusal_append : (n : ℕ) (rs ts : List Answer) → last_refusal n (rs ++ ts) ≡ last_refusal (last_refusal n rs) ts
  refusal_append n [] ts = refl
  refusal_append n (Painted f c m ∷ rs) ts = refusal_append f rs ts
  refusal_append n (PaintedList f m ∷ rs) ts = refusal_append n rs ts
  refusal_append n (Refreshed f d m ∷ rs) ts = refusal_append f rs ts
  refusal_append n (Shown f m ∷ rs) ts = refusal_append n rs ts
  refusal_append n (Locked f m ∷ rs) ts = refusal_append n rs ts

  answers_append : (cs ds : List Call) (s : State) → answers S w h (cs ++ ds) s ≡ answers S w h cs s ++ answers S w h ds (after S w h cs s)
  answers_append [] ds s = refl
  answers_append (c ∷ cs) ds s = ap {B = List Answer} (λ rs. (step S w h c s).1 ∷ rs) (answers_append cs ds (step S w h c s).0)

  lock_sets : (n : ℕ) (l : Rectangle) (s : State) (rs : List Answer) → last_refusal n ((step S w h (Lock l) s).1 ∷ rs) ≡ last_refusal n rs
  lock_sets n l s rs = by_test (past w h l)
    where
      by_test : (p : Bool)
          → last_refusal n ((cond {A = State × Answer} p (s, Locked 10 no_header) (relock l s, Locked 0 (header_of w h (relock l s)))).1 ∷ rs) ≡ last_refusal n rs
      by_test true = refl
      by_test false = refl

  pub list_sets : (es : List Event) (f : Device) (l : List ℕ) → Kept f.registers l
      → (byte (ends S w h es f).registers 0 ≡ last_command (byte f.registers 0) es)
      × (byte (ends S w h es f).registers 14 ≡ last_refusal (byte f.registers 14) (answers S w h (calls_of l es) f.session))
  list_sets [] f l g = (refl, refl)
  list_sets (Write a v ∷ es) f l g =
      let t = write_sets a v f g.sixteen in
      let i = list_sets es (write_byte S w h a v f).0 (set l a v) (kept_write S w h a v f l g) in
      let n = byte f.registers 14 in
      let cs = calls_at f.registers a v in
      let ds = calls_of (set l a v) es in (
        i.0 ∙ ap (λ (c : ℕ). last_command c es) t.0,
        i.1
            ∙ ap₂ (λ (m : ℕ) (s : State). last_refusal m (answers S w h ds s)) t.1 (session_write S w h a v f)
            ∙ sym (refusal_append n (answers S w h cs f.session) (answers S w h ds (after S w h cs f.session)))
            ∙ ap (last_refusal n) (sym (answers_append cs ds f.session))
            ∙ ap (λ (k : List Call). last_refusal n (answers S w h (k ++ ds) f.session)) (calls_same S w h f.registers l a v g),
      )
  list_sets (Read a ∷ es) f l g = list_sets es f l g
  list_sets (LockCall r ∷ es) f l g =
      let i = list_sets es (lock_call S w h r f).0 l g in (
        i.0,
        i.1 ∙ sym (lock_sets (byte f.registers 14) r f.session (answers S w h (calls_of l es) (step S w h (Lock r) f.session).0)),
      )
