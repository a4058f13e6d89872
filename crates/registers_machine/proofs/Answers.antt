-- What a command's answer leaves in single registers, and the call that a command stands for. Assumes nothing.
use mathlib.Core.Path.{◌≡◌, refl, ap, ◌∙◌}
use mathlib.Core.Bool.{Bool, true, false, cond}
use mathlib.Core.List.{List}
use Prim.Native.Nat.{ℕ, ◌+◌, ◌*◌, ◌<◌}
use native.Mathlib.Omega.{arith}
use lib.Dec.{eqb}
use lib.ListN.{length, get_or}
use Rattle.header.specs.Header.{locked}
use Rattle.machine.specs.Lists.{count}
use Rattle.machine.specs.Screen.{Screen}
use Rattle.machine.specs.Machine.{State, inside, store, step, Call, Paint, Refresh, Answer, Painted, PaintedList, Refreshed, Shown, Locked}
use Rattle.registers.specs.Registers.{byte, two_bytes, four_bytes, is_paint, is_refresh, empties, with_raised, after_paint, after_refresh, refusal_write}
use Rattle.registers.proofs.Bytes.{answer_keeps, raised_keeps, answer_length, raised_length}
use Rattle.registers_machine.specs.Device.{call_of, after_answer}

pub after_answer_length : (r : List ℕ) (before : ℕ) (t : Answer) → length (after_answer r before t) ≡ length r
unfolding after_paint after_refresh
after_answer_length r before (Painted refusal changed stale) = answer_length r 1 refusal stale
after_answer_length r before (PaintedList refusal stale) = refl
after_answer_length r before (Refreshed refusal drawn left) =
    let t = empties refusal before left in answer_length (with_raised t r) 2 refusal left ∙ raised_length t r
after_answer_length r before (Shown refusal words) = refl
after_answer_length r before (Locked refusal header) = refl

pub after_answer_keeps : (r : List ℕ) (before : ℕ) (t : Answer) (k : ℕ) → 2 < k → k < 14 → byte (after_answer r before t) k ≡ byte r k
unfolding after_paint after_refresh
after_answer_keeps r before (Painted refusal changed stale) k l m = answer_keeps r 1 refusal stale k (omega arith) (λ q. omega arith)
after_answer_keeps r before (PaintedList refusal stale) k l m = refl
after_answer_keeps r before (Refreshed refusal drawn left) k l m =
    let t = empties refusal before left in
    answer_keeps (with_raised t r) 2 refusal left k (omega arith) (λ q. omega arith) ∙ raised_keeps t r k (λ q. omega arith) (λ q. omega arith)
after_answer_keeps r before (Shown refusal words) k l m = refl
after_answer_keeps r before (Locked refusal header) k l m = refl

-- ---- the numbers of a command are those of any bytes that agree with the registers there

two_same : (r l : List ℕ) (a : ℕ) → byte r a ≡ byte l a → byte r (a + 1) ≡ byte l (a + 1) → two_bytes r a ≡ two_bytes l a
two_same r l a e f = rw (e, f)

four_same : (r l : List ℕ) (a : ℕ) → byte r a ≡ byte l a → byte r (a + 1) ≡ byte l (a + 1) → byte r (a + 2) ≡ byte l (a + 2)
    → byte r (a + 3) ≡ byte l (a + 3) → four_bytes r a ≡ four_bytes l a
four_same r l a e f g h = rw (e, f, g, h)

pub call_same : (r l : List ℕ) (v : ℕ) → ((k : ℕ) → 2 < k → k < 14 → byte r k ≡ byte l k) → call_of r v ≡ call_of l v
call_same r l v same = by_test (is_paint v)
  where
    at : (k : ℕ) → 2 < k → k < 14 → byte r k ≡ byte l k
    at = same

    by_test : (t : Bool) → ◌≡◌ {A = Call} (cond t (Paint (two_bytes r 4) (two_bytes r 6) (four_bytes r 8)) (Refresh (two_bytes r 12))) (cond t (Paint (two_bytes l 4) (two_bytes l 6) (four_bytes l 8)) (Refresh (two_bytes l 12)))
    by_test true =
        let c = two_same r l 4 (same 4 (omega arith) (omega arith)) (same 5 (omega arith) (omega arith)) in
        let d = two_same r l 6 (same 6 (omega arith) (omega arith)) (same 7 (omega arith) (omega arith)) in
        let e = four_same r l 8 (same 8 (omega arith) (omega arith)) (same 9 (omega arith) (omega arith)) (same 10 (omega arith) (omega arith)) (same 11 (omega arith) (omega arith)) in
        paint_same c d e
      where
        paint_same : {c c' d d' e e' : ℕ} → c ≡ c' → d ≡ d' → e ≡ e' → Paint c d e ≡ Paint c' d' e'
        paint_same p q s = λ i. Paint (p i) (q i) (s i)
    by_test false = ap Refresh (two_same r l 12 (same 12 (omega arith) (omega arith)) (same 13 (omega arith) (omega arith)))

-- a command that there is not is turned away
pub no_command : (a v : ℕ) → eqb a 0 ≡ true → is_paint v ≡ false → is_refresh v ≡ false → eqb (refusal_write a v) 0 ≡ false
no_command a v e p q = rw (e, p, q)

-- what holds of a paint's answer and of what it leaves: the equal word, the refusals and the with_byte word
pub paint_cases : (S : Screen) (w h column row word : ℕ) (s : State) (P : State × Answer → Type 0) → P (s, Painted 0 0 (count s.stale))
    → ((f : ℕ) → (f ≡ 0 → ⊥) → P (s, Painted f 0 0)) → P (store S w h column row word s, Painted 0 1 (count (store S w h column row word s).stale))
    → P (step S w h (Paint column row word) s)
paint_cases S w h column row word s P equal refused changed =
    by_tests (inside w h column row) (eqb word (get_or s.picture (row * w + column) 0)) (locked s.lock column row)
  where
    t : State
    t = store S w h column row word s

    by_tests : (b u k : Bool)
        → P
        (cond {A = State × Answer} b
        (cond u (s, Painted 0 0 (count s.stale)) (cond k (s, Painted 11 0 0) (t, Painted 0 1 (count t.stale)))) (s, Painted 5 0 0))
    by_tests false u k = refused 5 (λ q. omega arith)
    by_tests true true k = equal
    by_tests true false true = refused 11 (λ q. omega arith)
    by_tests true false false = changed
