-- Sentences of request 9 on single registers, of the plain machine with the registers before it: what raises and clears a flag, and which
-- registers a refused command alters. Assumes nothing.
use mathlib.Core.Path.{◌≡◌, refl, sym, ap, ◌∙◌}
use mathlib.Core.Bool.{Bool, true, false, cond, ◌&&◌, true≢false}
use mathlib.Core.List.{List, [], ◌∷◌}
use Prim.Native.Nat.{ℕ, ◌<◌, min}
use native.Mathlib.Omega.{arith}
use lib.Bits.{bit_or}
use lib.Dec.{ltb, eqb}
use lib.ListN.{length, set}
use lib.Seq.{get_or-set_same}
use borrow.Author.Tests.{eqb-true, eqb-false, ne_eqb}
use Rattle.machine.specs.Lists.{count}
use Rattle.machine.specs.Screen.{Screen}
use Rattle.machine.specs.Machine.{State, Call, Paint, Refresh, Answer, Painted, PaintedList, Refreshed, Shown, Locked, number_of, store, redraw, step}
use Rattle.registers.specs.Registers.{byte, two_bytes, four_bytes, line_of, cleared, is_paint, is_refresh, empties, with_answer, with_raised, with_flags, with_mask, with_byte, after_paint, after_refresh, refusal_write}
use Rattle.registers.proofs.Bytes.{set_keeps, answer_keeps, mask_keeps, taken_test}
use Rattle.registers_machine.proofs.Answers.{no_command, paint_cases}
use Rattle.registers_machine.proofs.Kept.{Kept, kept_write}
use Rattle.registers_machine.specs.Device.{after_answer, Event, Write, Read, LockCall, Reply, Written, Device, write_byte, lock_call, ends, flags_of}

-- a command that the session refuses alters command, status and refusal alone
pub refused_keeps : (r : List ℕ) (before : ℕ) (t : Answer) → (number_of t ≡ 0 → ⊥) → (k : ℕ) → 1 < k → (k ≡ 14 → ⊥)
    → byte (after_answer r before t) k ≡ byte r k
unfolding after_paint after_refresh
refused_keeps r before (Painted refusal changed stale) n k l m = answer_keeps r 1 refusal stale k l m
refused_keeps r before (PaintedList refusal stale) n k l m = refl
refused_keeps r before (Refreshed refusal drawn left) n k l m =
    ap (λ (t : Bool). byte (with_answer (with_raised (t && (ltb 0 before && eqb left 0)) r) 2 refusal left) k) (ne_eqb refusal 0 n) ∙ answer_keeps r 2 refusal left k l m
refused_keeps r before (Shown refusal words) n k l m = refl
refused_keeps r before (Locked refusal header) n k l m = refl

-- ---- the flags

raised_flags : (t : Bool) (r : List ℕ) → length r ≡ 16 → byte (with_raised t r) 2 ≡ cond t (bit_or (byte r 2) 1) (byte r 2)
raised_flags true r g =
    set_keeps (set r 2 (bit_or (byte r 2) 1)) 15 (line_of (bit_or (byte r 2) 1) (byte r 3)) 2 (λ q. omega arith)
    ∙ get_or-set_same r 2 (bit_or (byte r 2) 1) 0 (omega arith)
raised_flags false r g = refl

stored_flags : (r : List ℕ) (a v : ℕ) → length r ≡ 16 → byte (with_byte r a v) 2 ≡ cond (eqb a 2) (cleared (byte r 2) v) (byte r 2)
unfolding with_byte
stored_flags r a v g = by_tests (eqb a 2) refl (eqb a 3)
  where
    by_tests : (t : Bool) → eqb a 2 ≡ t → (u : Bool)
        → byte (cond t (with_flags r (cleared (byte r 2) v)) (cond u (with_mask r v) (set r a v))) 2 ≡ cond t (cleared (byte r 2) v) (byte r 2)
    by_tests true e u =
        set_keeps (set r 2 (cleared (byte r 2) v)) 15 (line_of (cleared (byte r 2) v) (byte r 3)) 2 (λ q. omega arith)
        ∙ get_or-set_same r 2 (cleared (byte r 2) v) 0 (omega arith)
    by_tests false e true = mask_keeps r v 2 (λ q. omega arith) (λ q. omega arith)
    by_tests false e false = set_keeps r a v 2 (λ q. eqb-false a 2 e (sym q))

-- a paint never alters them
paint_flags : (S : Screen) (w h column row word : ℕ) (s : State) (r : List ℕ) (n : ℕ) → byte (after_answer r n (step S w h (Paint column row word) s).1) 2 ≡ byte r 2
unfolding after_paint
paint_flags S w h column row word s r n =
    paint_cases S w h column row word s (λ t. byte (after_answer r n t.1) 2 ≡ byte r 2) (kept 0 (count s.stale)) (λ f z. kept f 0)
    (kept 0 (count (store S w h column row word s).stale))
  where
    kept : (f m : ℕ) → byte (with_answer r 1 f m) 2 ≡ byte r 2
    kept f m = answer_keeps r 1 f m 2 (omega arith) (λ q. omega arith)

-- a refresh raises bit 0 where it takes the stale count from above 0 to 0
refresh_flags : (S : Screen) (w h n : ℕ) (s : State) (r : List ℕ) → length r ≡ 16
    → byte (after_answer r (count s.stale) (step S w h (Refresh n) s).1) 2
    ≡ cond (ltb 0 (count s.stale) && eqb (count (step S w h (Refresh n) s).0.stale) 0) (bit_or (byte r 2) 1) (byte r 2)
unfolding after_refresh
refresh_flags S w h n s r g =
    let m = count (redraw S w h (min n (count s.stale)) s).stale in
    let t = empties 0 (count s.stale) m in
    answer_keeps (with_raised t r) 2 0 m 2 (omega arith) (λ q. omega arith) ∙ raised_flags t r g

-- ---- which writes are commands

not_flags : (a : ℕ) → eqb a 0 ≡ true → eqb a 2 ≡ false
not_flags a e = let z : a ≡ 0 = eqb-true a 0 e in ne_eqb a 2 (λ q. omega arith)

a_refresh : (a v : ℕ) → eqb a 0 ≡ true → is_refresh v ≡ true → eqb (refusal_write a v) 0 ≡ true
a_refresh a v e q = by_test (is_paint v)
  where
    by_test : (t : Bool) → eqb (refusal_write a v) 0 ≡ true
    by_test t = let z : v ≡ 2 = eqb-true v 2 q in rw (e, q, ne_eqb v 1 (λ u. omega arith))

not_both : (v : ℕ) → is_paint v ≡ true → is_refresh v ≡ true → ⊥
not_both v p q = omega (arith, eqb-true v 1 p, eqb-true v 2 q)

module _ (S : Screen) (w h : ℕ) (a v : ℕ) (f : Device) (g : length f.registers ≡ 16) where
  abbrev s : State
  s = f.session

  abbrev r : List ℕ
  r = f.registers

  -- the write is a refresh, and takes the stale count from above 0 to 0
  abbrev Emptied : Bool
  Emptied = (eqb a 0 && is_refresh v) && (ltb 0 (count s.stale) && eqb (count (write_byte S w h a v f).0.session.stale) 0)

  -- a write to the flags clears each bit at which it has a 1, a refresh that empties the stale set raises bit 0, and nothing else alters them
  pub flags_after : byte (write_byte S w h a v f).0.registers 2 ≡ cond (eqb a 2) (cleared (byte r 2) v) (cond Emptied (bit_or (byte r 2) 1) (byte r 2))
  flags_after = by_tests (eqb (refusal_write a v) 0) refl (eqb a 0) refl (is_paint v) refl (is_refresh v) refl
    where
      call : Bool → Call
      call z = cond z (Paint (two_bytes r 4) (two_bytes r 6) (four_bytes r 8)) (Refresh (two_bytes r 12))

      did : Bool → Bool → Bool → Device × Reply
      did x y z =
          cond x
          (cond y (record { session = (step S w h (call z) s).0; registers = after_answer r (count s.stale) (step S w h (call z) s).1 }, Written 0)
          (record { session = s; registers = with_byte r a v }, Written 0))
          (f, Written 15)

      Claim : Bool → Bool → Bool → Bool → Type 0
      Claim x y z u =
          byte (did x y z).0.registers 2
          ≡ cond (eqb a 2) (cleared (byte r 2) v)
          (cond ((y && u) && (ltb 0 (count s.stale) && eqb (count (did x y z).0.session.stale) 0)) (bit_or (byte r 2) 1) (byte r 2))

      by_tests : (x : Bool) → eqb (refusal_write a v) 0 ≡ x → (y : Bool) → eqb a 0 ≡ y → (z : Bool) → is_paint v ≡ z → (u : Bool) → is_refresh v ≡ u
          → Claim x y z u
      by_tests true ex true ey true ez true eu = absurd (not_both v ez eu)
      by_tests true ex true ey true ez false eu = paint_flags S w h (two_bytes r 4) (two_bytes r 6) (four_bytes r 8) s r (count s.stale) ∙ sym (rw (not_flags a ey))
      by_tests true ex true ey false ez true eu = refresh_flags S w h (two_bytes r 12) s r g ∙ sym (rw (not_flags a ey))
      by_tests true ex true ey false ez false eu = absurd (true≢false (sym ex ∙ no_command a v ey ez eu))
      by_tests true ex false ey z ez u eu = stored_flags r a v g
      by_tests false ex true ey z ez true eu = absurd (true≢false (sym (a_refresh a v ey eu) ∙ ex))
      by_tests false ex true ey z ez false eu = sym (rw (not_flags a ey))
      by_tests false ex false ey z ez u eu = by_flags (eqb a 2) refl
        where
          by_flags : (t : Bool) → eqb a 2 ≡ t → byte r 2 ≡ cond t (cleared (byte r 2) v) (byte r 2)
          by_flags true e = let k : a ≡ 2 = eqb-true a 2 e in absurd (true≢false (sym (taken_test a v (omega arith) (omega arith)) ∙ ex))
          by_flags false e = refl

-- ---- the flags after a list
pub flags_list : (S : Screen) (w h : ℕ) (es : List Event) (f : Device) (l : List ℕ) → Kept f.registers l
    → byte (ends S w h es f).registers 2 ≡ flags_of S w h (byte f.registers 2) es f
flags_list S w h [] f l g = refl
flags_list S w h (Write a v ∷ es) f l g =
    flags_list S w h es (write_byte S w h a v f).0 (set l a v) (kept_write S w h a v f l g)
    ∙ ap (λ (n : ℕ). flags_of S w h n es (write_byte S w h a v f).0) (flags_after S w h a v f g.sixteen)
flags_list S w h (Read a ∷ es) f l g = flags_list S w h es f l g
flags_list S w h (LockCall r ∷ es) f l g = flags_list S w h es (lock_call S w h r f).0 l g
