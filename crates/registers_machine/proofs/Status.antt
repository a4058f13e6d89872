-- Status and line are right after every event: bit 0 of the status says whether any block is stale, bit 1 whether the last command was
-- refused, and the line whether flags and mask share a bit. Assumes nothing.
use mathlib.Core.Path.{◌≡◌, refl, sym, ap, ap₂, ◌∙◌, subst}
use mathlib.Core.Bool.{Bool, true, false, cond}
use mathlib.Core.List.{List, [], ◌∷◌}
use Prim.Native.Nat.{ℕ, ◌+◌, ◌*◌, ◌%◌, ◌<◌, min}
use native.Mathlib.Omega.{arith}
use lib.Bits.{bit_or}
use lib.Dec.{eqb}
use lib.ListN.{length, set, length-set}
use lib.Seq.{get_or-set_same}
use borrow.Author.Tests.{eqb-false, ne_eqb}
use Rattle.header.specs.declared.Rectangle.{Rectangle}
use Rattle.header.specs.Header.{past, no_header}
use Rattle.machine.specs.Lists.{count}
use Rattle.machine.specs.Screen.{Screen}
use Rattle.machine.specs.Machine.{State, Paint, Refresh, Answer, Locked, store, redraw, header_of, relock, step}
use Rattle.registers.specs.Registers.{byte, two_bytes, four_bytes, stale_bit, line_of, cleared, status_of, empties, is_paint, with_answer, with_raised, with_flags, with_mask}
use Rattle.registers.specs.Registers.{with_byte, after_paint, after_refresh, refusal_write}
use Rattle.registers_machine.specs.Device.{call_of, after_answer, Event, Write, Read, LockCall, Reply, Written, Device, write_byte, lock_call, ends}
use Rattle.registers.proofs.Bytes.{set_keeps, answer_keeps, flags_keep, mask_keeps, answer_length, flags_length, mask_length, inner_write}
use Rattle.registers_machine.proofs.Answers.{paint_cases}

-- bit 1 of the status, by byte 14
abbrev refused_bit : ℕ → ℕ
refused_bit f = 2 * cond (eqb f 0) 0 1

-- n the stale count
pub record Right (n : ℕ) (r : List ℕ) : Type 0 where
  pub sixteen : length r ≡ 16
  pub status : byte r 1 ≡ stale_bit n + refused_bit (byte r 14)
  pub line : byte r 15 ≡ line_of (byte r 2) (byte r 3)

low_bit : (s : Bool) (t : Bool) → (cond {A = ℕ} s 0 1 + 2 * cond t 0 1) % 2 ≡ cond s 0 1
low_bit true true = refl
low_bit true false = refl
low_bit false true = refl
low_bit false false = refl

-- what a command's answer leaves: where it is not refused m is the stale count after it, and where it is, the count is as before
right_told : (n m v f : ℕ) (r : List ℕ) → Right n r → Right (cond (eqb f 0) m n) (with_answer r v f m)
right_told n m v f r g = record {
  sixteen = answer_length r v f m ∙ g.sixteen;
  status = at_status ∙ by_test (eqb f 0) ∙ ap (λ (b : ℕ). stale_bit (cond (eqb f 0) m n) + refused_bit b) (sym at_refusal);
  line = answer_keeps r v f m 15 (omega arith) (λ q. omega arith) ∙ g.line
      ∙ ap₂ line_of (sym (answer_keeps r v f m 2 (omega arith) (λ q. omega arith))) (sym (answer_keeps r v f m 3 (omega arith) (λ q. omega arith)));
}
  where
    s : ℕ
    s = status_of (byte r 1) f m

    at_refusal : byte (with_answer r v f m) 14 ≡ f
    at_refusal = get_or-set_same (set (set r 0 v) 1 (status_of (byte r 1) f m)) 14 f 0
        (omega (arith, length-set (set r 0 v) 1 (status_of (byte r 1) f m), length-set r 0 v, g.sixteen))

    at_status : byte (with_answer r v f m) 1 ≡ status_of (byte r 1) f m
    at_status =
        set_keeps (set (set r 0 v) 1 (status_of (byte r 1) f m)) 14 f 1 (λ q. omega arith)
        ∙ get_or-set_same (set r 0 v) 1 (status_of (byte r 1) f m) 0 (omega (arith, length-set r 0 v, g.sixteen))

    low : byte r 1 % 2 ≡ stale_bit n
    low = ap (λ (b : ℕ). b % 2) g.status ∙ low_bit (eqb n 0) (eqb (byte r 14) 0)

    by_test : (t : Bool) → cond t (stale_bit m) (byte r 1 % 2 + 2) ≡ stale_bit (cond t m n) + 2 * cond t 0 1
    by_test true = omega arith
    by_test false = omega (arith, low)

-- other flags, or another mask, and the line with them
right_flags : (n f : ℕ) (r : List ℕ) → Right n r → Right n (with_flags r f)
right_flags n f r g = record {
  sixteen = flags_length r f ∙ g.sixteen;
  status = flags_keep r f 1 (λ q. omega arith) (λ q. omega arith) ∙ g.status
      ∙ ap (λ (b : ℕ). stale_bit n + refused_bit b) (sym (flags_keep r f 14 (λ q. omega arith) (λ q. omega arith)));
  line = get_or-set_same (set r 2 f) 15 (line_of f (byte r 3)) 0 (omega (arith, length-set r 2 f, g.sixteen))
      ∙ ap₂ line_of (sym at_flags) (sym (flags_keep r f 3 (λ q. omega arith) (λ q. omega arith)));
}
  where
    at_flags : byte (with_flags r f) 2 ≡ f
    at_flags = set_keeps (set r 2 f) 15 (line_of f (byte r 3)) 2 (λ q. omega arith) ∙ get_or-set_same r 2 f 0 (omega (arith, g.sixteen))

right_mask : (n m : ℕ) (r : List ℕ) → Right n r → Right n (with_mask r m)
right_mask n m r g = record {
  sixteen = mask_length r m ∙ g.sixteen;
  status = mask_keeps r m 1 (λ q. omega arith) (λ q. omega arith) ∙ g.status
      ∙ ap (λ (b : ℕ). stale_bit n + refused_bit b) (sym (mask_keeps r m 14 (λ q. omega arith) (λ q. omega arith)));
  line = get_or-set_same (set r 3 m) 15 (line_of (byte r 2) m) 0 (omega (arith, length-set r 3 m, g.sixteen))
      ∙ ap₂ line_of (sym (mask_keeps r m 2 (λ q. omega arith) (λ q. omega arith))) (sym at_mask);
}
  where
    at_mask : byte (with_mask r m) 3 ≡ m
    at_mask = set_keeps (set r 3 m) 15 (line_of (byte r 2) m) 3 (λ q. omega arith) ∙ get_or-set_same r 3 m 0 (omega (arith, g.sixteen))

right_raised : (t : Bool) (n : ℕ) (r : List ℕ) → Right n r → Right n (with_raised t r)
right_raised true n r g = right_flags n (bit_or (byte r 2) 1) r g
right_raised false n r g = g

right_stored : (n : ℕ) (r : List ℕ) (a v : ℕ) → 1 < a → a < 14 → Right n r → Right n (with_byte r a v)
unfolding with_byte
right_stored n r a v i j g = by_tests (eqb a 2) refl (eqb a 3) refl
  where
    by_tests : (t : Bool) → eqb a 2 ≡ t → (u : Bool) → eqb a 3 ≡ u → Right n (cond t (with_flags r (cleared (byte r 2) v)) (cond u (with_mask r v) (set r a v)))
    by_tests true e u f = right_flags n (cleared (byte r 2) v) r g
    by_tests false e true f = right_mask n v r g
    by_tests false e false f = record {
      sixteen = length-set r a v ∙ g.sixteen;
      status = kept 1 (λ q. omega arith) ∙ g.status ∙ ap (λ (b : ℕ). stale_bit n + refused_bit b) (sym (kept 14 (λ q. omega arith)));
      line = kept 15 (λ q. omega arith) ∙ g.line ∙ ap₂ line_of (sym (kept 2 (λ q. eqb-false a 2 e (sym q)))) (sym (kept 3 (λ q. eqb-false a 3 f (sym q))));
    }
      where
        kept : (k : ℕ) → (k ≡ a → ⊥) → byte (set r a v) k ≡ byte r k
        kept k m = set_keeps r a v k m

-- ---- a command, a write, a list

module _ (S : Screen) (w h : ℕ) where
  abbrev now : State → ℕ
  now s = count s.stale

  abbrev noticed : List ℕ → State → State × Answer → Type 0
  noticed r s t = Right (now t.0) (after_answer r (now s) t.1)

  right_paint : (column row word : ℕ) (s : State) (r : List ℕ) → Right (now s) r → noticed r s (step S w h (Paint column row word) s)
  unfolding after_paint
  right_paint column row word s r g =
      paint_cases S w h column row word s (noticed r s) (right_told (now s) (now s) 1 0 r g)
      (λ f z. subst (λ (t : Bool). Right (cond t 0 (now s)) (with_answer r 1 f 0)) (ne_eqb f 0 z) (right_told (now s) 0 1 f r g))
      (right_told (now s) (now (store S w h column row word s)) 1 0 r g)

  right_refresh : (n : ℕ) (s : State) (r : List ℕ) → Right (now s) r → noticed r s (step S w h (Refresh n) s)
  unfolding after_refresh
  right_refresh n s r g =
      let m = now (redraw S w h (min n (now s)) s) in
      let t = empties 0 (now s) m in
      right_told (now s) m 2 0 (with_raised t r) (right_raised t (now s) r g)

  right_call : (v : ℕ) (s : State) (r : List ℕ) → Right (now s) r → noticed r s (step S w h (call_of r v) s)
  right_call v s r g = by_test (is_paint v)
    where
      by_test : (t : Bool) → noticed r s (step S w h (cond t (Paint (two_bytes r 4) (two_bytes r 6) (four_bytes r 8)) (Refresh (two_bytes r 12))) s)
      by_test true = right_paint (two_bytes r 4) (two_bytes r 6) (four_bytes r 8) s r g
      by_test false = right_refresh (two_bytes r 12) s r g

  abbrev RightDevice : Device → Type 0
  RightDevice f = Right (now f.session) f.registers

  pub right_write : (a v : ℕ) (f : Device) → RightDevice f → RightDevice (write_byte S w h a v f).0
  right_write a v f g = by_tests (eqb (refusal_write a v) 0) refl (eqb a 0) refl
    where
      s : State
      s = f.session

      r : List ℕ
      r = f.registers

      t : State × Answer
      t = step S w h (call_of r v) s

      by_tests : (x : Bool) → eqb (refusal_write a v) 0 ≡ x → (y : Bool) → eqb a 0 ≡ y
          → RightDevice
          (cond {A = Device × Reply} x
          (cond y (record { session = t.0; registers = after_answer r (count s.stale) t.1 }, Written 0) (record { session = s; registers = with_byte r a v }, Written 0))
          (f, Written 15)).0
      by_tests true p true q = right_call v s r g
      by_tests true p false q = let i = inner_write a v p q in right_stored (now s) r a v i.0 i.1 g
      by_tests false p y q = g

  right_lock : (l : Rectangle) (f : Device) → RightDevice f → RightDevice (lock_call S w h l f).0
  right_lock l f g = by_test (past w h l)
    where
      s : State
      s = f.session

      by_test : (p : Bool)
          → Right (now (cond {A = State × Answer} p (s, Locked 10 no_header) (relock l s, Locked 0 (header_of w h (relock l s)))).0) f.registers
      by_test true = g
      by_test false = g

  pub right_list : (es : List Event) (f : Device) → RightDevice f → RightDevice (ends S w h es f)
  right_list [] f g = g
  right_list (Write a v ∷ es) f g = right_list es (write_byte S w h a v f).0 (right_write a v f g)
  right_list (Read a ∷ es) f g = right_list es f g
  right_list (LockCall l ∷ es) f g = right_list es (lock_call S w h l f).0 (right_lock l f g)
