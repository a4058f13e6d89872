-- What a call promises, from its refusal and from what its parts do. Assumes nothing.
use mathlib.Core.Path.{◌≡◌, refl, sym, ap, subst, ◌∙◌}
use mathlib.Core.Logic.{◌⊎◌, inl, inr, ⊎_elim}
use mathlib.Core.Bool.{Bool, true, false, cond, not, true≢false}
use mathlib.Core.List.{List, [], ◌∷◌, ◌++◌}
use Prim.Native.Nat.{ℕ, zero, suc, ◌-◌, ◌*◌, ◌≤◌}
use native.Mathlib.Nat.{mul-le-mul}
use native.Mathlib.Omega.{arith}
use lib.Dec.{T, ltb, eqb}
use lib.ListN.{length, set, take, drop, replicate}
use borrow.Author.Tests.{ne_eqb, eq-eqb, eqb-true, ltb-false}
use Rattle.picture.proofs.Bools.{or_none}
use Rattle.clarity.specs.declared.Clarity.{Clarity}
use Rattle.clarity.specs.Clarity.{lawful_of}
use Rattle.header.specs.declared.Rectangle.{Rectangle}
use Rattle.header.specs.declared.Header.{Header}
use Rattle.header.specs.Header.{past, fresh, with_lock, no_header}
use Rattle.machine.specs.Lists.{set_all, count, first}
use Rattle.machine.specs.Screen.{Screen, block_words}
use Rattle.machine.specs.Machine.{inside, put_all, block_at}
use Rattle.machine.specs.Calls.{is_stale, stale_of, side_long, refusal_header, refusal_clarity, refusal_all, refusal_lent, refusal_paint, refusal_show, refusal_lock}
use Rattle.machine.specs.Calls.{OpenEnd, LockEnd, open_end, refresh_end, show_end, lock_end, Opens, Refreshes, Shows, Locks}
use Rattle.machine.specs.Lent.{Lent, LentPaint, LentShow}
use Rattle.machine.proofs.Places.{block_lt, area}
use Rattle.machine.proofs.Lists.{first_length, first_min, count_cleared}
use Rattle.machine.proofs.Held.{unmet, inside_of}

-- ---- a mark's byte

pub is_stale_lem : (m : ℕ) → (m ≡ 0 → ⊥) → is_stale m ≡ true
is_stale_lem m e = ap not (ne_eqb m 0 e)

pub not_stale : (m : ℕ) → m ≡ 0 → is_stale m ≡ false
not_stale m e = ap not (eq-eqb m 0 e)

-- ---- no refusal: what the call was lent

sides : (side w h : ℕ) → side_long side w h ≡ false → (w ≤ side) × (h ≤ side)
sides side w h e = let s = or_none (ltb side w) (ltb side h) e in (ltb-false side w s.0, ltb-false side h s.1)

-- so the picture has few blocks, and few words in them
pub small : (side w h : ℕ) → side ≤ 2048 → side_long side w h ≡ false → w * h ≤ 4194304
small side w h l e = let s = sides side w h e in area w h (omega (arith, s.0)) (omega (arith, s.1))

pub small_words : (side words w h : ℕ) → (side ≤ 2048) × (words ≤ 81) → side_long side w h ≡ false → words * (w * h) ≤ 81 * 4194304
small_words side words w h l e = mul-le-mul l.1 (small side w h l.0 e)

-- the header's two checks, where they refuse nothing
abbrev pub Taken : ℕ → Header → Type 0
Taken side header = (side_long side header.w header.h ≡ false) × (past header.w header.h header.lock ≡ false)

pub header_taken : (side : ℕ) (header : Header) → refusal_header side header 0 ≡ 0 → Taken side header
header_taken side header e =
    let q = unmet (side_long side header.w header.h) 0 _ e in (q.0, (unmet (past header.w header.h header.lock) 9 0 q.1).0)

-- and where they do, whatever would come next
pub header_refused : (side : ℕ) (header : Header) (f x : ℕ) → f ≡ refusal_header side header 0 → (f ≡ 0 → ⊥) → f ≡ refusal_header side header x
header_refused side header f x e z = by_tests (side_long side header.w header.h) (past header.w header.h header.lock) e
  where
    by_tests : (a b : Bool) → f ≡ cond a 1 (cond b 10 0) → f ≡ cond a 1 (cond b 10 x)
    by_tests true b e = e
    by_tests false true e = e
    by_tests false false e = absurd (z e)

-- the setting's check, where it refuses nothing, and where it does, whatever would come next
pub clarity_taken : (header : Header) → refusal_clarity header 0 ≡ 0 → not (lawful_of header.clarity) ≡ false
clarity_taken header e = (unmet (not (lawful_of header.clarity)) 12 0 e).0

pub clarity_refused : (header : Header) (f x : ℕ) → f ≡ refusal_clarity header 0 → (f ≡ 0 → ⊥) → f ≡ refusal_clarity header x
clarity_refused header f x e z = by_test (not (lawful_of header.clarity)) e
  where
    by_test : (t : Bool) → f ≡ cond t 13 0 → f ≡ cond t 13 x
    by_test true e = e
    by_test false e = absurd (z e)

-- a call that is lent picture and marks is refused by what it was lent, whatever would come next, or what comes next decides
abbrev pub Decided : ℕ → Header → ℕ → ℕ → Type 0
Decided side header p m =
    ((n : ℕ) × ((x : ℕ) → refusal_lent side header p m x ≡ suc n)) ⊎ ((x : ℕ) → refusal_lent side header p m x ≡ x)

pub decided : (side : ℕ) (header : Header) (p m : ℕ) → Decided side header p m
decided side header p m =
    let n = header.w * header.h in
    by_tests (side_long side header.w header.h) (past header.w header.h header.lock) (ltb p n) (ltb m n)
    (not (lawful_of header.clarity))
  where
    number : Bool → Bool → Bool → Bool → Bool → ℕ → ℕ
    number a b c d t x = cond a 1 (cond b 10 (cond c 2 (cond d 4 (cond t 13 x))))

    by_tests : (a b c d t : Bool) → ((n : ℕ) × ((x : ℕ) → number a b c d t x ≡ suc n)) ⊎ ((x : ℕ) → number a b c d t x ≡ x)
    by_tests true b c d t = inl (0, λ x. refl)
    by_tests false true c d t = inl (9, λ x. refl)
    by_tests false false true d t = inl (1, λ x. refl)
    by_tests false false false true t = inl (3, λ x. refl)
    by_tests false false false false true = inl (12, λ x. refl)
    by_tests false false false false false = inr (λ x. refl)

pub lent_taken : (side : ℕ) (header : Header) (p m : ℕ) → refusal_lent side header p m 0 ≡ 0
    → (side_long side header.w header.h ≡ false) × (header.w * header.h ≤ p)
lent_taken side header p m e =
    let a = unmet (side_long side header.w header.h) 0 _ e in
    let c = unmet (ltb p (header.w * header.h)) 1 _ (unmet (past header.w header.h header.lock) 9 _ a.1).1 in
    (a.0, ltb-false p (header.w * header.h) c.0)

-- where it is not refused by what it was lent, what comes next decides; where it is, nothing that would come next matters
pub lent_next : (side : ℕ) (header : Header) (p m x : ℕ) → refusal_lent side header p m 0 ≡ 0 → x ≡ refusal_lent side header p m x
lent_next side header p m x e = ⊎_elim (λ t. absurd (omega (arith, e, t.1 0))) (λ q. sym (q x)) (decided side header p m)

pub lent_after : (side : ℕ) (header : Header) (p m x : ℕ) → refusal_lent side header p m x ≡ 0 → x ≡ 0
lent_after side header p m x e = ⊎_elim (λ t. absurd (omega (arith, e, t.1 x))) (λ q. sym (q x) ∙ e) (decided side header p m)

pub lent_refused : (side : ℕ) (header : Header) (p m f x : ℕ) → f ≡ refusal_lent side header p m 0 → (f ≡ 0 → ⊥) → f ≡ refusal_lent side header p m x
lent_refused side header p m f x e z =
    ⊎_elim (λ t. e ∙ t.1 0 ∙ sym (t.1 x)) (λ q. absurd (z (e ∙ q 0))) (decided side header p m)

in_it : (i : Bool) (m n : ℕ) → cond i m (suc n) ≡ 0 → i ≡ true
in_it true m n e = refl
in_it false m n e = absurd (omega arith)

module _ (S : Screen) (header : Header) where
  -- the header's two checks, and then what follows them
  pub header_lent : (x : ℕ) → refusal_header S.side header x ≡ 0 → (header.w ≤ S.side) × (header.h ≤ S.side) × (x ≡ 0)
  header_lent x e =
      let q = unmet (side_long S.side header.w header.h) 0 _ e in
      let s = sides S.side header.w header.h q.0 in
      (s.0, s.1, (unmet (past header.w header.h header.lock) 9 x q.1).1)

  pub lent : (p o m : ℕ) → refusal_all S.side (block_words S) header p o m ≡ 0 → Lent S header.w header.h p o m
  lent p o m e =
      let n = header.w * header.h in
      let q = header_lent _ e in
      let for_p = unmet (ltb p n) 1 _ q.2 in
      let for_o = unmet (ltb o (block_words S * n)) 2 _ for_p.1 in
      record {
        wide = q.0;
        high = q.1;
        for_picture = ltb-false p n for_p.0;
        for_output = ltb-false o (block_words S * n) for_o.0;
        for_marks = ltb-false m n (unmet (ltb m n) 3 _ for_o.1).0;
      }

  pub lent_paint : (p : List ℕ) (m column row word : ℕ) → refusal_paint S.side header p m column row word ≡ 0
      → LentPaint S header.w header.h (length p) m column row
  lent_paint p m column row word e =
      let w = header.w in
      let h = header.h in
      let q = header_lent _ e in
      let for_p = unmet (ltb (length p) (w * h)) 1 _ q.2 in
      let for_m = unmet (ltb m (w * h)) 3 _ for_p.1 in
      let lawful = unmet (not (lawful_of header.clarity)) 12 _ for_m.1 in
      let i = inside_of w h column row (in_it (inside w h column row) _ 4 lawful.1) in
      record {
        wide = q.0;
        high = q.1;
        for_picture = ltb-false (length p) (w * h) for_p.0;
        for_marks = ltb-false m (w * h) for_m.0;
        across = i.0;
        down = i.1;
        at = block_lt i.0 i.1;
      }

  pub lent_show : (o : ℕ) (marks : List ℕ) (bx by : ℕ) → refusal_show S.side (block_words S) header o marks bx by ≡ 0
      → LentShow S header.w header.h o bx by
  lent_show o marks bx by e =
      let w = header.w in
      let h = header.h in
      let q = header_lent _ e in
      let for_o = unmet (ltb o (block_words S * (w * h))) 2 _ q.2 in
      let for_m = unmet (ltb (length marks) (w * h)) 3 _ for_o.1 in
      let lawful = unmet (not (lawful_of header.clarity)) 12 _ for_m.1 in
      let i = inside_of w h bx by (in_it (inside w h bx by) _ 4 lawful.1) in
      record { wide = q.0; high = q.1; for_output = ltb-false o (block_words S * (w * h)) for_o.0; across = i.0; down = i.1 }

-- ---- the stale count after blocks are drawn is what it was, less their number

stale_set : (n : ℕ) (m : List ℕ) (b : ℕ) → stale_of n (set m b 0) ≡ set (stale_of n m) b false
stale_set zero m b = refl
stale_set (suc n) [] b = refl
stale_set (suc n) (x ∷ m) zero = refl
stale_set (suc n) (x ∷ m) (suc b) = ap {B = List Bool} (λ l. is_stale x ∷ l) (stale_set n m b)

stale_cleared : (n : ℕ) (bs m : List ℕ) → stale_of n (set_all bs 0 m) ≡ set_all bs false (stale_of n m)
stale_cleared n [] m = refl
stale_cleared n (b ∷ bs) m = stale_cleared n bs (set m b 0) ∙ ap (set_all bs false) (stale_set n m b)

pub count_left : (n k : ℕ) (m : List ℕ) → count (stale_of n (set_all (first k (stale_of n m)) 0 m)) ≡ count (stale_of n m) - k
count_left n k m = ap count (stale_cleared n (first k (stale_of n m)) m) ∙ count_cleared k (stale_of n m)

-- ---- the calls: f is the refusal's number

module _ (S : Screen) (w h : ℕ) (q : Clarity) (p o m : List ℕ) (f : ℕ)
    (e : f ≡ refusal_all S.side (block_words S) (fresh w h q) (length p) (length o) (length m)) where
  pub open_refused : (f ≡ 0 → ⊥) → Opens S w h q p o m (record { output = o; marks = m; refusal = f; header = no_header; stale = 0 })
  unfolding open_end
  open_refused z = record { is = rw (← e, ne_eqb f 0 z) }

  pub open_done : f ≡ 0 → (o' m' : List ℕ) → o' ≡ replicate (block_words S * (w * h)) 0 ++ drop (block_words S * (w * h)) o
      → m' ≡ replicate (w * h) 1 ++ drop (w * h) m → Opens S w h q p o m (record { output = o'; marks = m'; refusal = 0; header = fresh w h q; stale = w * h })
  unfolding open_end
  open_done z o' m' eo em = record { is = rw (← e, eq-eqb f 0 z, eo, em) }

module _ (S : Screen) (header : Header) where
  abbrev blocks : ℕ
  blocks = header.w * header.h

  module _ (p o m : List ℕ) (n f : ℕ) (e : f ≡ refusal_all S.side (block_words S) header (length p) (length o) (length m)) where
    pub refresh_refused : (f ≡ 0 → ⊥) → Refreshes S header p o m n (record { output = o; marks = m; refusal = f; drawn = 0; left = 0 })
    unfolding refresh_end
    refresh_refused z = record { is = rw (← e, ne_eqb f 0 z) }

    -- d blocks were drawn, of as many as were stale before
    pub refresh_done : f ≡ 0 → (o' m' : List ℕ) (d l : ℕ) → d ≡ length (first n (stale_of blocks m))
        → o' ≡ put_all S header.w header.h header.clarity (take blocks p) (first n (stale_of blocks m)) o → m' ≡ set_all (first n (stale_of blocks m)) 0 m
        → l ≡ count (stale_of blocks m) - d → Refreshes S header p o m n (record { output = o'; marks = m'; refusal = 0; drawn = d; left = l })
    unfolding refresh_end
    refresh_done z o' m' d l ed eo em el =
        let s = stale_of blocks m in
        let left_now : count (stale_of blocks (set_all (first n s) 0 m)) ≡ l = omega (arith, count_left blocks n m, ed, el, first_length n s) in
        record {
          is = rw (← e, eq-eqb f 0 z, first_min n s, ← left_now, eo, em, ed, first_length n s);
        }

  module _ (o m : List ℕ) (bx by f : ℕ) (e : f ≡ refusal_show S.side (block_words S) header (length o) m bx by) where
    pub show_refused : (f ≡ 0 → ⊥) → (ws : List ℕ) → ws ≡ replicate (block_words S) 0 → Shows S header o m bx by (record { refusal = f; words = ws })
    unfolding show_end
    show_refused z ws q = record { is = rw (← e, ne_eqb f 0 z, q) }

    pub show_done : f ≡ 0 → (ws : List ℕ) → ws ≡ block_at S header.w header.h bx by o
        → Shows S header o m bx by (record { refusal = 0; words = ws })
    unfolding show_end
    show_done z ws q = record { is = rw (← e, eq-eqb f 0 z, q) }

  module _ (lock : Rectangle) (f : ℕ) (e : f ≡ refusal_lock S.side header lock) where
    pub lock_refused : (f ≡ 0 → ⊥) → Locks S header lock (record { refusal = f; header = no_header })
    unfolding lock_end
    lock_refused z = record { is = rw (← e, ne_eqb f 0 z) }

    pub lock_done : f ≡ 0 → Locks S header lock (record { refusal = 0; header = with_lock header lock })
    unfolding lock_end
    lock_done z = record { is = rw (← e, eq-eqb f 0 z) }

-- ---- a header that is answered has a lawful setting, be the call refused or not

ended_lawful : {E : Type 0} (header : E → Header) (f : ℕ) (x y d : E) → d ≡ cond (eqb f 0) x y → (f ≡ 0 → T (lawful_of (header x).clarity))
    → T (lawful_of (header y).clarity) → T (lawful_of (header d).clarity)
ended_lawful {E} header f x y d q a b = subst (λ (e : E). T (lawful_of (header e).clarity)) (sym q) (by_test (eqb f 0) refl)
  where
    by_test : (t : Bool) → eqb f 0 ≡ t → T (lawful_of (header (cond t x y)).clarity)
    by_test true e = a (eqb-true f 0 e)
    by_test false e = b

lawful_of_lem : (header : Header) (f : ℕ) → refusal_clarity header f ≡ 0 → T (lawful_of header.clarity)
lawful_of_lem header f e = by_test (lawful_of header.clarity) (unmet (not (lawful_of header.clarity)) 12 f e).0
  where
    by_test : (t : Bool) → not t ≡ false → T t
    by_test true e = tt
    by_test false e = absurd (true≢false e)

pub opens_lawful : {S : Screen} {w h : ℕ} {q : Clarity} {p o m : List ℕ} {e : OpenEnd} → Opens S w h q p o m e → T (lawful_of e.header.clarity)
unfolding open_end
opens_lawful {S} {w} {h} {q} {p} {o} {m} {e} r =
    ended_lawful (λ e. e.header) _ _ _ e r.is
    (λ z.
    let n = unmet (ltb (length p) (w * h)) 1 _ (header_lent S (fresh w h q) _ z).2 in
    let k = unmet (ltb (length o) (block_words S * (w * h))) 2 _ n.1 in
    lawful_of_lem (fresh w h q) 0 (unmet (ltb (length m) (w * h)) 3 _ k.1).1) tt

pub locks_lawful : {S : Screen} {header : Header} {lock : Rectangle} {e : LockEnd} → Locks S header lock e → T (lawful_of e.header.clarity)
unfolding lock_end
locks_lawful {S} {header} {lock} {e} r =
    ended_lawful (λ e. e.header) _ _ _ e r.is
    (λ z. lawful_of_lem header 0 (unmet (past header.w header.h lock) 9 _ (header_lent S header _ z).2).1) tt
