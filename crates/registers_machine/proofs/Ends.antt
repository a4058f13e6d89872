-- What a write promises, from its refusal and from what its parts do. Assumes nothing.
use mathlib.Core.Path.{◌≡◌, refl, sym, ap, ◌∙◌, subst}
use mathlib.Core.Bool.{Bool, true, false, cond, not, ◌&&◌, ◌||◌}
use mathlib.Core.List.{List}
use Prim.Native.Nat.{ℕ, ◌+◌, ◌*◌, ◌<◌, min}
use native.Mathlib.Omega.{arith}
use lib.Dec.{ltb, eqb}
use lib.ListN.{length, get_or}
use borrow.Author.Tests.{ne_eqb, eq-eqb, eqb-true, eqb-false}
use Rattle.picture.specs.Refusal as refusal
use Rattle.clarity.specs.Clarity.{lawful_of}
use Rattle.header.specs.declared.Header.{Header}
use Rattle.header.specs.Header.{locked, past}
use Rattle.machine.specs.Lists.{count}
use Rattle.machine.specs.Screen.{Screen, block_words}
use Rattle.machine.specs.Machine.{inside}
use Rattle.machine.specs.Calls.{stale_of, side_long, refusal_all, refusal_paint, PaintEnd, RefreshEnd, paint_end, refresh_end, Paints, Refreshes}
use Rattle.machine.proofs.Ends.{count_left}
use Rattle.registers.specs.Registers.{two_bytes, four_bytes, is_paint, is_refresh, with_raised, with_answer, with_byte, after_paint, after_refresh, refusal_write}
use Rattle.registers_machine.specs.Calls.{write_end, WritesByte}

-- ---- the refusals of the session fit a byte

under : (a : Bool) (n x : ℕ) → n < 256 → x < 256 → cond a n x < 256
under true n x l m = l
under false n x l m = m

ended_under : {E : Type 0} (number : E → ℕ) (t : Bool) (x y d : E) → d ≡ cond t x y → number x < 256 → number y < 256 → number d < 256
ended_under {E} number t x y d q l m = subst (λ (e : E). number e < 256) (sym q) (by_test t)
  where
    by_test : (t : Bool) → number (cond t x y) < 256
    by_test true = l
    by_test false = m

module _ (S : Screen) (header : Header) where
  all_under : (p o m : ℕ) → refusal_all S.side (block_words S) header p o m < 256
  all_under p o m =
      let n = header.w * header.h in
      under (side_long S.side header.w header.h) 1 _ (omega arith)
      (under (past header.w header.h header.lock) 10 _ (omega arith)
      (under (ltb p n) 2 _ (omega arith)
      (under (ltb o (block_words S * n)) 3 _ (omega arith)
      (under (ltb m n) 4 _ (omega arith)
      (under (not (lawful_of header.clarity)) 13 0 (omega arith) (omega arith))))))

  paint_under : (p : List ℕ) (m column row word : ℕ) → refusal_paint S.side header p m column row word < 256
  paint_under p m column row word =
      let n = header.w * header.h in
      under (side_long S.side header.w header.h) 1 _ (omega arith)
      (under (past header.w header.h header.lock) 10 _ (omega arith)
      (under (ltb (length p) n) 2 _ (omega arith)
      (under (ltb m n) 4 _ (omega arith)
      (under (not (lawful_of header.clarity)) 13 _ (omega arith)
      (under (inside header.w header.h column row) _ 5
      (under (eqb word (get_or p (row * header.w + column) 0)) 0 _ (omega arith)
      (under (locked header.lock column row) 11 0 (omega arith) (omega arith))) (omega arith))))))

  pub paints_under : {p m : List ℕ} {column row word : ℕ} {d : PaintEnd} → Paints S header p m column row word d → d.refusal < 256
  unfolding paint_end
  paints_under {p} {m} {column} {row} {word} {d} q =
      ended_under (λ (d : PaintEnd). d.refusal) (eqb (refusal_paint S.side header p (length m) column row word) 0) _ _ d q.is
      (ended_under (λ (d : PaintEnd). d.refusal) (eqb word (get_or p (row * header.w + column) 0)) _ _ _ refl (omega arith) (omega arith))
      (paint_under p (length m) column row word)

  pub refreshes_under : {p o m : List ℕ} {n : ℕ} {d : RefreshEnd} → Refreshes S header p o m n d → d.refusal < 256
  unfolding refresh_end
  refreshes_under {p} {o} {m} {n} {d} q =
      ended_under (λ (d : RefreshEnd). d.refusal) (eqb (refusal_all S.side (block_words S) header (length p) (length o) (length m)) 0) _ _ d q.is (omega arith)
      (all_under (length p) (length o) (length m))

-- ---- a refresh that leaves nothing drew as many blocks as were stale

-- a refresh that is not refused
taken_end : (f : ℕ) (d x y : RefreshEnd) → d ≡ cond (eqb f 0) x y → y.refusal ≡ f → d.refusal ≡ 0 → d ≡ x
taken_end f d x y q n z = by_test (eqb f 0) refl q
  where
    by_test : (t : Bool) → eqb f 0 ≡ t → d ≡ cond t x y → d ≡ x
    by_test true e g = g
    by_test false e g = absurd (eqb-false f 0 e (sym n ∙ ap (λ (d : RefreshEnd). d.refusal) (sym g) ∙ z))

module _ (S : Screen) (header : Header) where
  drew_all : {p o m : List ℕ} {n : ℕ} {d : RefreshEnd} → Refreshes S header p o m n d → d.refusal ≡ 0 → d.left ≡ 0
      → d.drawn ≡ count (stale_of (header.w * header.h) m)
  unfolding refresh_end
  drew_all {p} {o} {m} {n} {d} q z e =
      let f = refusal_all S.side (block_words S) header (length p) (length o) (length m) in
      let blocks = header.w * header.h in
      let before = count (stale_of blocks m) in
      let i = taken_end f d _ _ q.is refl z in
      omega (arith, ap (λ (d : RefreshEnd). d.drawn) i, ap (λ (d : RefreshEnd). d.left) i, count_left blocks (min n before) m)

-- ---- the write: f is its refusal's number

both : (a b : Bool) (x y : ℕ) → (a ≡ true → b ≡ true → x ≡ y) → (a && (ltb 0 x && b)) ≡ (a && (ltb 0 y && b))
both true true x y e = ap (λ (n : ℕ). ltb 0 n && true) (e refl refl)
both true false x y e = none_of (ltb 0 x) ∙ sym (none_of (ltb 0 y))
  where
    none_of : (t : Bool) → (t && false) ≡ false
    none_of true = refl
    none_of false = refl
both false b x y e = refl

after_refresh_same : (r : List ℕ) (x y f left : ℕ) → (f ≡ 0 → left ≡ 0 → x ≡ y) → after_refresh r x f left ≡ after_refresh r y f left
unfolding after_refresh
after_refresh_same r x y f left e =
    ap (λ (t : Bool). with_answer (with_raised t r) 2 f left) (both (eqb f 0) (eqb left 0) x y (λ p q. e (eqb-true f 0 p) (eqb-true left 0 q)))

-- refused, a write is refused 15
only : (a v f : ℕ) → f ≡ refusal_write a v → (f ≡ 0 → ⊥) → f ≡ refusal.register
only a v f e z = e ∙ by_tests (eqb a 0) (is_paint v || is_refresh v) ((eqb a 1 || eqb a 14) || (eqb a 15 || ltb 15 a)) (λ q. z (e ∙ q))
  where
    by_tests : (x y t : Bool) → (◌≡◌ {A = ℕ} (cond x (cond y 0 15) (cond t 15 0)) 0 → ⊥) → ◌≡◌ {A = ℕ} (cond x (cond y 0 15) (cond t 15 0)) 15
    by_tests true true t n = absurd (n refl)
    by_tests true false t n = refl
    by_tests false y true n = refl
    by_tests false y false n = absurd (n refl)

module _ (S : Screen) (header : Header) (p o m r : List ℕ) (a v f : ℕ) (e : f ≡ refusal_write a v) where
  pub write_refused : (f ≡ 0 → ⊥) → WritesByte S header p o m r a v (record { picture = p; output = o; marks = m; registers = r; refusal = f })
  unfolding write_end
  write_refused z = record { is = rw (← e, ne_eqb f 0 z, only a v f e z) }

  module _ (z : f ≡ 0) where
    pub write_stored : (a ≡ 0 → ⊥) → (r' : List ℕ) → r' ≡ with_byte r a v
        → WritesByte S header p o m r a v (record { picture = p; output = o; marks = m; registers = r'; refusal = 0 })
    unfolding write_end
    write_stored n r' q = record { is = rw (← e, eq-eqb f 0 z, ne_eqb a 0 n, q) }

    -- the call was given what the registers hold
    pub write_paint : a ≡ 0 → v ≡ 1 → (column row word : ℕ) → column ≡ two_bytes r 4 → row ≡ two_bytes r 6 → word ≡ four_bytes r 8
        → (d : PaintEnd) → Paints S header p m column row word d → (r' : List ℕ) → r' ≡ after_paint r d.refusal d.stale
        → WritesByte S header p o m r a v (record { picture = d.picture; output = o; marks = d.marks; registers = r'; refusal = 0 })
    unfolding write_end
    write_paint n c column row word x y l d k r' q = record { is = rw (← e, eq-eqb f 0 z, eq-eqb a 0 n, eq-eqb v 1 c, q, k.is, x, y, l) }

    pub write_refresh : a ≡ 0 → (v ≡ 1 → ⊥) → (blocks : ℕ) → blocks ≡ two_bytes r 12 → (d : RefreshEnd) → Refreshes S header p o m blocks d
        → (r' : List ℕ) → r' ≡ after_refresh r d.drawn d.refusal d.left
        → WritesByte S header p o m r a v (record { picture = p; output = d.output; marks = d.marks; registers = r'; refusal = 0 })
    unfolding write_end
    write_refresh n c blocks x d k r' q =
        let s = after_refresh_same r d.drawn (count (stale_of (header.w * header.h) m)) d.refusal d.left (λ x y. drew_all S header k x y) in
        record { is = rw (← e, eq-eqb f 0 z, eq-eqb a 0 n, ne_eqb v 1 c, q ∙ s, k.is, x) }
