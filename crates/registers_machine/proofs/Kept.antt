-- The plain machine with the registers before it: bytes 3 to 13 are what was last written, a list of events is its calls on the machine, and
-- status and line are right after every event. Assumes nothing.
use mathlib.Core.Path.{◌≡◌, refl, sym, ap, ◌∙◌, subst}
use mathlib.Core.Bool.{Bool, true, false, cond, true≢false}
use mathlib.Core.List.{List, [], ◌∷◌, ◌++◌}
use Prim.Native.Nat.{ℕ, ◌<◌}
use native.Mathlib.Omega.{arith}
use lib.Dec.{eqb}
use lib.ListN.{length, set, length-set}
use lib.Seq.{get_or-set_same}
use borrow.Author.Tests.{eqb-true, eqb-false}
use Rattle.machine.specs.Lists.{count}
use Rattle.machine.specs.Screen.{Screen}
use Rattle.machine.specs.Machine.{State, Call, Answer, step, after}
use Rattle.registers.specs.Registers.{byte, line_of, cleared, with_flags, with_mask}
use Rattle.registers.specs.Registers.{with_byte, refusal_write}
use Rattle.registers_machine.specs.Device.{call_of, after_answer, Event, Write, Read, LockCall, Reply, Written, Device, write_byte, lock_call, ends, calls_at, calls_of, written}
use Rattle.registers.proofs.Bytes.{set_keeps, flags_keep, flags_length, mask_length}
use Rattle.registers.proofs.Bytes.{taken_test, inner_write}
use Rattle.registers_machine.proofs.Answers.{after_answer_length, after_answer_keeps, call_same}

-- ---- bytes 3 to 13 are what was last written

pub record Kept (r l : List ℕ) : Type 0 where
  pub sixteen : length r ≡ 16
  pub as_many : length l ≡ 16
  pub same : (k : ℕ) → 2 < k → k < 14 → byte r k ≡ byte l k

-- a register that is with_byte in both, or in neither
both_set : (r l : List ℕ) (a v k : ℕ) → length r ≡ 16 → length l ≡ 16 → a < 16 → byte r k ≡ byte l k → byte (set r a v) k ≡ byte (set l a v) k
both_set r l a v k m n i e = by_test (eqb k a) refl
  where
    by_test : (t : Bool) → eqb k a ≡ t → byte (set r a v) k ≡ byte (set l a v) k
    by_test true q =
        let p : k ≡ a = eqb-true k a q in
        subst (λ (j : ℕ). byte (set r a v) j ≡ byte (set l a v) j) (sym p)
        (get_or-set_same r a v 0 (omega arith) ∙ sym (get_or-set_same l a v 0 (omega arith)))
    by_test false q = set_keeps r a v k (eqb-false k a q) ∙ e ∙ sym (set_keeps l a v k (eqb-false k a q))

module _ (r l : List ℕ) (g : Kept r l) where
  kept_noted : (before : ℕ) (t : Answer) (v : ℕ) → Kept (after_answer r before t) (set l 0 v)
  kept_noted before t v = record {
    sixteen = after_answer_length r before t ∙ g.sixteen;
    as_many = length-set l 0 v ∙ g.as_many;
    same = λ k i j. after_answer_keeps r before t k i j ∙ g.same k i j ∙ sym (set_keeps l 0 v k (λ q. omega arith));
  }

  kept_stored : (a v : ℕ) → 1 < a → a < 14 → Kept (with_byte r a v) (set l a v)
  unfolding with_byte
  kept_stored a v i j = by_tests (eqb a 2) refl (eqb a 3) refl
    where
      flagged : ℕ
      flagged = cleared (byte r 2) v

      long : length (set l a v) ≡ 16
      long = length-set l a v ∙ g.as_many

      by_tests : (t : Bool) → eqb a 2 ≡ t → (u : Bool) → eqb a 3 ≡ u
          → Kept (cond t (with_flags r flagged) (cond u (with_mask r v) (set r a v))) (set l a v)
      by_tests true e u f = record {
        sixteen = flags_length r flagged ∙ g.sixteen;
        as_many = long;
        same = λ k m n.
            let at : a ≡ 2 = eqb-true a 2 e in
            flags_keep r flagged k (λ q. omega arith) (λ q. omega arith) ∙ g.same k m n ∙ sym (set_keeps l a v k (λ q. omega arith));
      }
      by_tests false e true f = record {
        sixteen = mask_length r v ∙ g.sixteen;
        as_many = long;
        same = λ k m n.
            let at : a ≡ 3 = eqb-true a 3 f in
            set_keeps (set r 3 v) 15 (line_of (byte r 2) v) k (λ q. omega arith)
            ∙ both_set r l 3 v k g.sixteen g.as_many (omega arith) (g.same k m n)
            ∙ ap (λ (j : ℕ). byte (set l j v) k) (sym at);
      }
      by_tests false e false f = record {
        sixteen = length-set r a v ∙ g.sixteen;
        as_many = long;
        same = λ k m n. both_set r l a v k g.sixteen g.as_many (omega arith) (g.same k m n);
      }

  -- a write that is turned away is not to one of them
  kept_away : (a v : ℕ) → eqb (refusal_write a v) 0 ≡ false → Kept r (set l a v)
  kept_away a v e = record {
    sixteen = g.sixteen;
    as_many = length-set l a v ∙ g.as_many;
    same = λ k m n. g.same k m n ∙ sym (set_keeps l a v k (λ q. away k m n q));
  }
    where
      away : (k : ℕ) → 2 < k → k < 14 → k ≡ a → ⊥
      away k m n q = true≢false (sym (taken_test a v (omega arith) (omega arith)) ∙ e)

module _ (S : Screen) (w h : ℕ) where
  pub kept_write : (a v : ℕ) (f : Device) (l : List ℕ) → Kept f.registers l → Kept (write_byte S w h a v f).0.registers (set l a v)
  kept_write a v f l g = by_tests (eqb (refusal_write a v) 0) refl (eqb a 0) refl
    where
      s : State
      s = f.session

      r : List ℕ
      r = f.registers

      t : State × Answer
      t = step S w h (call_of r v) s

      by_tests : (x : Bool) → eqb (refusal_write a v) 0 ≡ x → (y : Bool) → eqb a 0 ≡ y
          → Kept
          (cond {A = Device × Reply} x
          (cond y (record { session = t.0; registers = after_answer r (count s.stale) t.1 }, Written 0) (record { session = s; registers = with_byte r a v }, Written 0))
          (f, Written 15)).0.registers (set l a v)
      by_tests true p true q =
          subst (λ (b : ℕ). Kept (after_answer r (count s.stale) t.1) (set l b v)) (sym (eqb-true a 0 q)) (kept_noted r l g (count s.stale) t.1 v)
      by_tests true p false q = let i = inner_write a v p q in kept_stored r l g a v i.0 i.1
      by_tests false p y q = kept_away r l g a v p

  pub kept_list : (es : List Event) (f : Device) (l : List ℕ) → Kept f.registers l → Kept (ends S w h es f).registers (written l es)
  kept_list [] f l g = g
  kept_list (Write a v ∷ es) f l g = kept_list es (write_byte S w h a v f).0 (set l a v) (kept_write a v f l g)
  kept_list (Read a ∷ es) f l g = kept_list es f l g
  kept_list (LockCall r ∷ es) f l g = kept_list es (lock_call S w h r f).0 l g

  -- ---- a list of events is its calls on the machine

  after_append : (cs ds : List Call) (s : State) → after S w h (cs ++ ds) s ≡ after S w h ds (after S w h cs s)
  after_append [] ds s = refl
  after_append (c ∷ cs) ds s = after_append cs ds (step S w h c s).0

  pub session_write : (a v : ℕ) (f : Device) → (write_byte S w h a v f).0.session ≡ after S w h (calls_at f.registers a v) f.session
  session_write a v f = by_tests (eqb (refusal_write a v) 0) (eqb a 0)
    where
      s : State
      s = f.session

      r : List ℕ
      r = f.registers

      t : State × Answer
      t = step S w h (call_of r v) s

      by_tests : (x y : Bool)
          → ◌≡◌ {A = State} (cond {A = Device × Reply} x
          (cond y (record { session = t.0; registers = after_answer r (count s.stale) t.1 }, Written 0) (record { session = s; registers = with_byte r a v }, Written 0))
          (f, Written 15)).0.session (after S w h (cond {A = List Call} x (cond y (call_of r v ∷ []) []) []) s)
      by_tests true true = refl
      by_tests true false = refl
      by_tests false y = refl

  -- by what is written alone
  pub calls_same : (r l : List ℕ) (a v : ℕ) → Kept r l → calls_at r a v ≡ calls_at l a v
  calls_same r l a v g = ap (λ (c : Call). cond {A = List Call} (eqb (refusal_write a v) 0) (cond (eqb a 0) (c ∷ []) []) []) (call_same r l v g.same)

  pub session_list : (es : List Event) (f : Device) (l : List ℕ) → Kept f.registers l → (ends S w h es f).session ≡ after S w h (calls_of l es) f.session
  session_list [] f l g = refl
  session_list (Write a v ∷ es) f l g =
      session_list es (write_byte S w h a v f).0 (set l a v) (kept_write a v f l g)
      ∙ ap (after S w h (calls_of (set l a v) es))
      (session_write a v f ∙ ap (λ (cs : List Call). after S w h cs f.session) (calls_same f.registers l a v g))
      ∙ sym (after_append (calls_at l a v) (calls_of (set l a v) es) f.session)
  session_list (Read a ∷ es) f l g = session_list es f l g
  session_list (LockCall r ∷ es) f l g = session_list es (lock_call S w h r f).0 l g
