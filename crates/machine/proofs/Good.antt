-- What every state of the machine keeps: the lengths, a lock inside the picture, a lawful setting, and each block that is not stale shows its words, drawn
-- from the present picture by that setting. It holds of the four ways in which a state comes about, `opened`, `store`, `redraw` and `relock`, on every lawful screen. Assumes nothing.
use mathlib.Core.Path.{◌≡◌, refl, sym, ap, ap₂, ◌∙◌, subst}
use mathlib.Core.Logic.{◌≢◌}
use mathlib.Core.Bool.{Bool, true, false, cond, ◌&&◌, true≢false, false≢true}
use mathlib.Core.List.{List, [], ◌∷◌, ◌++◌}
use Prim.Native.Nat.{ℕ, zero, suc, ◌+◌, ◌*◌, ◌/◌, ◌%◌, ◌≤◌, ◌<◌}
use native.Mathlib.Nat.{add-zero, zero-add, add-suc, suc-add, le_of_suc-le-suc, not-suc-le-zero}
use native.Mathlib.Decide.{ℕ_discrete}
use native.Mathlib.Omega.{arith}
use lib.Dec.{ltb, eqb}
use lib.ListN.{length, get_or, set, length-set, length-replicate, get_or-replicate}
use lib.Seq.{get_or-set_same, get_or-set_other, ext_get_or}
use borrow.Author.Tests.{lt-ltb, eq-eqb, ne_eqb}
use Rattle.clarity.specs.declared.Clarity.{Clarity}
use Rattle.clarity.specs.Clarity.{lawful_of, plainly}
use Rattle.header.specs.declared.Rectangle.{Rectangle}
use Rattle.header.specs.Header.{past}
use Rattle.machine.specs.Lists.{stamp, set_all, count, first}
use Rattle.machine.specs.Screen.{Screen, Lawful, block_words, place}
use Rattle.machine.specs.Machine.{State, opened, store, redraw, relock, names, put_words, put_block, put_all}
use Rattle.machine.proofs.Places.{column_lt, row_lt, block_same, spot_lt, spot_same, spot_onto, digits_same}
use Rattle.machine.proofs.Lists.{Below, length_stamp, get_or_stamp, length_set_all, first_below, none_true}

-- ---- a test that kept an element

kept : (t x : Bool) → cond t true x ≡ false → (t ≡ false) × (x ≡ false)
kept true x e = absurd (true≢false e)
kept false x e = (refl, e)

unnamed : (t u : Bool) → t ≡ true → (t && u) ≡ false → u ≡ false
unnamed true u e f = f
unnamed false u e f = absurd (false≢true e)

module _ (S : Screen) (w h : ℕ) where
  -- where word k of block b lies, and its words as they are drawn
  abbrev pub spot_of : ℕ → ℕ → ℕ
  spot_of b k = place S w (b % w) (b / w) k

  abbrev pub drawn : Clarity → List ℕ → ℕ → List ℕ
  drawn q picture b = S.draw q w h picture (b % w) (b / w)

  -- each block that is not stale shows the words of the picture
  abbrev pub Shown : Clarity → List ℕ → List Bool → List ℕ → Type 0
  Shown q picture stale output =
      (b k : ℕ) → b < w * h → get_or stale b true ≡ false → k < block_words S → get_or output (spot_of b k) 0 ≡ get_or (drawn q picture b) k 0

  pub record Good (s : State) : Type 0 where
    pub picture_length : length s.picture ≡ w * h
    pub stale_length : length s.stale ≡ w * h
    pub output_length : length s.output ≡ block_words S * (w * h)
    pub shown : Shown s.clarity s.picture s.stale s.output
    pub lock_inside : past w h s.lock ≡ false
    pub setting_lawful : lawful_of s.clarity ≡ true

  pub length_put_words : (bx by k : ℕ) (xs out : List ℕ) → length (put_words S w h bx by k xs out) ≡ length out
  length_put_words bx by k [] out = refl
  length_put_words bx by k (x ∷ xs) out = length_put_words bx by (suc k) xs (set out (place S w bx by k) x) ∙ length-set out (place S w bx by k) x

  pub length_put_block : (q : Clarity) (picture : List ℕ) (b : ℕ) (out : List ℕ) → length (put_block S w h q picture b out) ≡ length out
  length_put_block q picture b out = length_put_words (b % w) (b / w) 0 (drawn q picture b) out

  pub length_put_all : (q : Clarity) (picture bs out : List ℕ) → length (put_all S w h q picture bs out) ≡ length out
  length_put_all q picture [] out = refl
  length_put_all q picture (b ∷ bs) out = length_put_all q picture bs (put_block S w h q picture b out) ∙ length_put_block q picture b out

  -- some blocks and then others
  pub put_all_two : (q : Clarity) (picture bs cs out : List ℕ) → put_all S w h q picture (bs ++ cs) out ≡ put_all S w h q picture cs (put_all S w h q picture bs out)
  put_all_two q picture [] cs out = refl
  put_all_two q picture (b ∷ bs) cs out = put_all_two q picture bs cs (put_block S w h q picture b out)

module _ (S : Screen) (L : Lawful S) (w h : ℕ) where
  -- ---- a block's words put into the output

  pub spot_below : (b k : ℕ) → b < w * h → k < block_words S → spot_of S w h b k < block_words S * (w * h)
  spot_below b k l m = spot_lt S.scale w L.scaled h (b % w) (b / w) k (column_lt w h b l) (row_lt w h b l) m

  same_spot : (b k b' k' : ℕ) → b < w * h → b' < w * h → k < block_words S → k' < block_words S
      → spot_of S w h b k ≡ spot_of S w h b' k' → (b ≡ b') × (k ≡ k')
  same_spot b k b' k' l l' m m' e =
      let r = spot_same S.scale w L.scaled (b % w) (b / w) k (b' % w) (b' / w) k' (column_lt w h b l) (column_lt w h b' l') m m' e in
      (block_same w b b' r.0 r.1, r.2)

  put_other : (b k : ℕ) (xs out : List ℕ) (i : ℕ) → ((j : ℕ) → k ≤ j → j < k + length xs → i ≢ spot_of S w h b j)
      → get_or (put_words S w h (b % w) (b / w) k xs out) i 0 ≡ get_or out i 0
  put_other b k [] out i f = refl
  put_other b k (x ∷ xs) out i f =
      put_other b (suc k) xs (set out (spot_of S w h b k) x) i (λ j l u. f j (omega arith) (omega arith))
      ∙ get_or-set_other out (spot_of S w h b k) i x 0 (f k (omega arith) (omega arith))

  put_same : (b k : ℕ) (xs out : List ℕ) (j : ℕ) → b < w * h → block_words S * (w * h) ≤ length out → k + length xs ≤ block_words S → j < length xs
      → get_or (put_words S w h (b % w) (b / w) k xs out) (spot_of S w h b (k + j)) 0 ≡ get_or xs j 0
  put_same b k [] out j l n f u = absurd (not-suc-le-zero u)
  put_same b k (x ∷ xs) out zero l n f u =
      let i = spot_of S w h b k in
      let low : i < length out = omega (arith, spot_below b k l (omega arith)) in
      ap (λ (m : ℕ). get_or (put_words S w h (b % w) (b / w) k (x ∷ xs) out) (spot_of S w h b m) 0) (add-zero k)
      ∙ put_other b (suc k) xs (set out i x) i (λ m a v e. omega (arith, (same_spot b k b m l l (omega arith) (omega arith) e).1))
      ∙ get_or-set_same out i x 0 low
  put_same b k (x ∷ xs) out (suc j) l n f u =
      let i = spot_of S w h b k in
      ap (λ (m : ℕ). get_or (put_words S w h (b % w) (b / w) k (x ∷ xs) out) (spot_of S w h b m) 0) (add-suc k j ∙ sym (suc-add k j))
      ∙ put_same b (suc k) xs (set out i x) j l (omega (arith, length-set out i x)) (omega arith) (le_of_suc-le-suc u)

  -- ---- one block drawn, and then some

  -- word k of block b, once block c is drawn
  pub put_at : (q : Clarity) (picture : List ℕ) (c : ℕ) (out : List ℕ) (b k : ℕ) → c < w * h → block_words S * (w * h) ≤ length out → b < w * h → k < block_words S
      → get_or (put_block S w h q picture c out) (spot_of S w h b k) 0 ≡ cond (eqb b c) (get_or (drawn S w h q picture b) k 0) (get_or out (spot_of S w h b k) 0)
  put_at q picture c out b k l ol l' m = by_block (ℕ_discrete b c)
    where
      n : length (drawn S w h q picture c) ≡ block_words S
      n = L.draw_length q w h picture (c % w) (c / w)

      by_test : (t : Bool) → eqb b c ≡ t
          → cond t (get_or (drawn S w h q picture b) k 0) (get_or out (spot_of S w h b k) 0)
          ≡ cond (eqb b c) (get_or (drawn S w h q picture b) k 0) (get_or out (spot_of S w h b k) 0)
      by_test t e = ap (λ (t : Bool). cond t (get_or (drawn S w h q picture b) k 0) (get_or out (spot_of S w h b k) 0)) (sym e)

      by_block : Dec (b ≡ c)
          → get_or (put_block S w h q picture c out) (spot_of S w h b k) 0 ≡ cond (eqb b c) (get_or (drawn S w h q picture b) k 0) (get_or out (spot_of S w h b k) 0)
      by_block (yes p) =
          subst (λ (d : ℕ). get_or (put_block S w h q picture c out) (spot_of S w h d k) 0 ≡ get_or (drawn S w h q picture d) k 0) (sym p)
          (ap (λ (m : ℕ). get_or (put_block S w h q picture c out) (spot_of S w h c m) 0) (sym (zero-add k))
          ∙ put_same c 0 (drawn S w h q picture c) out k l ol (omega (arith, n)) (omega (arith, n)))
          ∙ by_test true (eq-eqb b c p)
      by_block (no p) =
          put_other c 0 (drawn S w h q picture c) out (spot_of S w h b k) (λ j a u f. p (same_spot b k c j l' l m (omega (arith, n)) f).0)
          ∙ by_test false (ne_eqb b c p)

  -- past the blocks the output stays
  pub put_past : (q : Clarity) (picture : List ℕ) (c : ℕ) (out : List ℕ) (i : ℕ) → c < w * h → block_words S * (w * h) ≤ i
      → get_or (put_block S w h q picture c out) i 0 ≡ get_or out i 0
  put_past q picture c out i l far =
      put_other c 0 (drawn S w h q picture c) out i
      (λ j a u e. omega (arith, e, spot_below c j l (omega (arith, L.draw_length q w h picture (c % w) (c / w)))))

  shown_one : (q : Clarity) (picture : List ℕ) (stale : List Bool) (output : List ℕ) (b : ℕ) → b < w * h → length output ≡ block_words S * (w * h)
      → Shown S w h q picture stale output → Shown S w h q picture (set stale b false) (put_block S w h q picture b output)
  shown_one q picture stale output b l ol good b' k l' e m = put_at q picture b output b' k l (omega (arith, ol)) l' m ∙ by_block (ℕ_discrete b' b)
    where
      now : ℕ
      now = get_or (drawn S w h q picture b') k 0

      old : ℕ
      old = get_or output (spot_of S w h b' k) 0

      by_block : Dec (b' ≡ b) → cond (eqb b' b) now old ≡ now
      by_block (yes p) = ap (λ (t : Bool). cond t now old) (eq-eqb b' b p)
      by_block (no p) =
          ap (λ (t : Bool). cond t now old) (ne_eqb b' b p) ∙ good b' k l' (sym (get_or-set_other stale b b' false true p) ∙ e) m

  shown_all : (q : Clarity) (picture bs : List ℕ) (stale : List Bool) (output : List ℕ) → Below (w * h) bs → length output ≡ block_words S * (w * h)
      → Shown S w h q picture stale output → Shown S w h q picture (set_all bs false stale) (put_all S w h q picture bs output)
  shown_all q picture [] stale output l ol good = good
  shown_all q picture (b ∷ bs) stale output l ol good =
      shown_all q picture bs (set stale b false) (put_block S w h q picture b output) l.1 (length_put_block S w h q picture b output ∙ ol)
      (shown_one q picture stale output b l.0 ol good)

  -- ---- the four ways

  pub good_opened : (q : Clarity) (picture : List ℕ) → lawful_of q ≡ true → length picture ≡ w * h → Good S w h (opened S w h q picture)
  unfolding past
  good_opened q picture f l = record {
    picture_length = l;
    stale_length = length-replicate (w * h) true;
    output_length = length-replicate (block_words S * (w * h)) 0;
    shown = λ b k m e u. absurd (true≢false (sym (get_or-replicate (w * h) b true true m) ∙ e));
    lock_inside = refl;
    setting_lawful = f;
  }

  pub good_store : (column row word : ℕ) (s : State) → column < w → row < h → Good S w h s → Good S w h (store S w h column row word s)
  good_store column row word s c r g = record {
    picture_length = length-set s.picture (row * w + column) word ∙ g.picture_length;
    stale_length = length_stamp 0 (names S w h column row) true s.stale ∙ g.stale_length;
    output_length = g.output_length;
    shown = still;
    lock_inside = g.lock_inside;
    setting_lawful = g.setting_lawful;
  }
    where
      painted : List ℕ
      painted = set s.picture (row * w + column) word

      still : Shown S w h s.clarity painted (stamp (names S w h column row) true s.stale) s.output
      still b k l e m = g.shown b k l was.1 m ∙ ap (λ (ws : List ℕ). get_or ws k 0) same
        where
          was : (names S w h column row b ≡ false) × (get_or s.stale b true ≡ false)
          was = kept (names S w h column row b) (get_or s.stale b true)
              (sym (get_or_stamp (names S w h column row) true s.stale b true (omega (arith, g.stale_length))) ∙ e)

          far : S.touches column row (b % w) (b / w) ≡ false
          far = unnamed (ltb b (w * h)) (S.touches column row (b % w) (b / w)) (lt-ltb b (w * h) l) was.0

          agree : (x y : ℕ) → x < w → y < h → S.touches x y (b % w) (b / w) ≡ true → get_or s.picture (y * w + x) 0 ≡ get_or painted (y * w + x) 0
          agree x y xl yl t = sym (get_or-set_other s.picture (row * w + column) (y * w + x) word 0
              (λ q. let d = digits_same y row w x column xl c q in
              true≢false (sym t ∙ ap₂ (λ (x y : ℕ). S.touches x y (b % w) (b / w)) d.1 d.0 ∙ far)))

          same : drawn S w h s.clarity s.picture b ≡ drawn S w h s.clarity painted b
          same = L.local s.clarity w h s.picture painted (b % w) (b / w) g.picture_length
              (length-set s.picture (row * w + column) word ∙ g.picture_length) (column_lt w h b l) (row_lt w h b l) agree

  pub good_redraw : (k : ℕ) (s : State) → Good S w h s → Good S w h (redraw S w h k s)
  good_redraw k s g =
      let bs = first k s.stale in
      let low : Below (w * h) bs = subst (λ (m : ℕ). Below m bs) g.stale_length (first_below k s.stale) in
      record {
        picture_length = g.picture_length;
        stale_length = length_set_all bs false s.stale ∙ g.stale_length;
        output_length = length_put_all S w h s.clarity s.picture bs s.output ∙ g.output_length;
        shown = shown_all s.clarity s.picture bs s.stale s.output low g.output_length g.shown;
        lock_inside = g.lock_inside;
        setting_lawful = g.setting_lawful;
      }

  pub good_relock : (r : Rectangle) (s : State) → past w h r ≡ false → Good S w h s → Good S w h (relock r s)
  good_relock r s e g = record {
    picture_length = g.picture_length;
    stale_length = g.stale_length;
    output_length = g.output_length;
    shown = g.shown;
    lock_inside = e;
    setting_lawful = g.setting_lawful;
  }

  -- ---- what it gives: with nothing stale the picture decides the output, at settings that count as equal

  pub good_same : (s t : State) → plainly s.clarity ≡ plainly t.clarity → Good S w h s → Good S w h t → s.picture ≡ t.picture → count s.stale ≡ 0 → count t.stale ≡ 0
      → s.output ≡ t.output
  good_same s t a g f e n m = ext_get_or 0 s.output t.output (g.output_length ∙ sym f.output_length) at
    where
      at : (i : ℕ) → i < length s.output → get_or s.output i 0 ≡ get_or t.output i 0
      at i l =
          let o = spot_onto S.scale w L.scaled h i (omega (arith, g.output_length)) in
          ap (λ (j : ℕ). get_or s.output j 0) (sym o.4)
          ∙ g.shown o.0 o.1 o.2 (none_true s.stale n o.0 (omega (arith, g.stale_length, o.2))) o.3
          ∙ ap (λ (p : List ℕ). get_or (drawn S w h s.clarity p o.0) o.1 0) e
          ∙ ap (λ (ws : List ℕ). get_or ws o.1 0) (L.settings s.clarity t.clarity a w h t.picture (o.0 % w) (o.0 / w))
          ∙ sym (f.shown o.0 o.1 o.2 (none_true t.stale m o.0 (omega (arith, f.stale_length, o.2))) o.3)
          ∙ ap (λ (j : ℕ). get_or t.output j 0) o.4
