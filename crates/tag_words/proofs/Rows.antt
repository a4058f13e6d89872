-- A block of copies in which the words of its tags are stored is its block. Assumes nothing.
use mathlib.Core.Path.{◌≡◌, refl, sym, ◌∙◌, ap}
use mathlib.Core.Bool.{Bool, true, false}
use mathlib.Core.List.{List, [], ◌∷◌}
use Prim.Native.Nat.{ℕ, ◌+◌, ◌*◌, ◌/◌, ◌%◌, ◌≤◌}
use native.Mathlib.Omega.{arith}
use lib.Dec.{eqb, ltb}
use lib.ListN.{length, get_or, set}
use lib.Seq.{set-get_or, get_or-set_other}
use borrow.Author.Tests.{eqb-true, ltb-true}
use Rattle.picture.specs.Fill.{put, length_put, get_or_off, stored3}
use Rattle.std.specs.Prelude.{Option, None, Some, cond}
use Rattle.picture.specs.Picture.{words}
use Rattle.tag.specs.declared.Tags.{Tags}
use Rattle.tag_words.specs.declared.Pixel.{Pixel}
use Rattle.tag_words.specs.Pixel.{named, stored, corner_of, mid_of}
use Rattle.block.specs.Block.{corner, mid, tag_word, block_from}
use Rattle.block.specs.Drawn.{put_block, Copies, Plain, stored_unless}

-- ---- a block of copies, and the words of its tags

-- a word that may stay is the one that stands there
one : (t : Bool) (i v c : ℕ) (l : List ℕ) → (t ≡ true → v ≡ c) → get_or l i 0 ≡ c → stored_unless t i v l ≡ set l i v
one true i v c l k e = sym (ap (set l i) (k refl ∙ sym e) ∙ set-get_or l i 0)
one false i v c l k e = refl

-- a row of the block
three : (l : List ℕ) (s c : ℕ) (t u v : Bool) (a b d : ℕ) → s + 3 ≤ length l → Copies s c l
    → (t ≡ true → a ≡ c) → (u ≡ true → b ≡ c) → (v ≡ true → d ≡ c)
    → stored_unless v (s + 2) d (stored_unless u (s + 1) b (stored_unless t s a l)) ≡ put s (a ∷ b ∷ d ∷ []) l
three l s c t u v a b d room k kt ku kv =
    let z : s ≡ s + 0 = omega arith in
    let l₁ = set l s a in
    let l₂ = set l₁ (s + 1) b in
    let e₁ = one t s a c l kt (ap (λ (i : ℕ). get_or l i 0) z ∙ k 0 (omega arith)) in
    let e₂ = one u (s + 1) b c l₁ ku (get_or-set_other l s (s + 1) a 0 (λ e. absurd (omega arith)) ∙ k 1 (omega arith)) in
    let e₃ = one v (s + 2) d c l₂ kv
    (get_or-set_other l₁ (s + 1) (s + 2) b 0 (λ e. absurd (omega arith)) ∙ get_or-set_other l s (s + 2) a 0 (λ e. absurd (omega arith))
    ∙ k 2 (omega arith)) in
    ap (λ (m : List ℕ). stored_unless v (s + 2) d (stored_unless u (s + 1) b m)) e₁
    ∙ ap (stored_unless v (s + 2) d) e₂
    ∙ e₃
    ∙ stored3 l s a b d room

-- what is stored in a block's rows above leaves the room and the copies below
pub middle_stands : (ow at c : ℕ) (us l l' : List ℕ) → l' ≡ put at us l → length us ≡ 3 → 3 ≤ ow → at + 2 * ow + 3 ≤ length l
    → Plain ow at c l → (at + ow + 3 ≤ length l') × Copies (at + ow) c l'
middle_stands ow at c us l l' e n wide room k = (
  omega (arith, ap length e, length_put at us l (omega arith)),
  λ j h. ap (λ (m : List ℕ). get_or m (at + ow + j) 0) e ∙ get_or_off at us l (at + ow + j) 0 (omega arith) (λ z. omega arith) ∙ k.middle j h,
)

pub bottom_stands : (ow at c : ℕ) (us vs l l' l'' : List ℕ) → l' ≡ put at us l → l'' ≡ put (at + ow) vs l' → length us ≡ 3 → length vs ≡ 3
    → 3 ≤ ow → at + 2 * ow + 3 ≤ length l → Plain ow at c l → (at + 2 * ow + 3 ≤ length l'') × Copies (at + 2 * ow) c l''
bottom_stands ow at c us vs l l' l'' e e' n m wide room k =
    let long : length l' ≡ length l = ap length e ∙ length_put at us l (omega arith) in (
      omega (arith, long, ap length e', length_put (at + ow) vs l' (omega (arith, long))),
      λ j h.
          ap (λ (m : List ℕ). get_or m (at + 2 * ow + j) 0) e'
          ∙ get_or_off (at + ow) vs l' (at + 2 * ow + j) 0 (omega (arith, long)) (λ z. omega arith)
          ∙ ap (λ (m : List ℕ). get_or m (at + 2 * ow + j) 0) e
          ∙ get_or_off at us l (at + 2 * ow + j) 0 (omega arith) (λ z. omega arith)
          ∙ k.bottom j h,
    )

module _ (w h : ℕ) (f : ℕ → ℕ → ℕ) (x y : ℕ) where
  abbrev word : ℕ → ℕ
  word = tag_word w h f x y

  corner_stays : (t : ℕ) → eqb t 0 ≡ true → word (corner t) ≡ word 0
  corner_stays t e = ap (λ (n : ℕ). word (n % 9)) (eqb-true t 0 e)

  mid_stays : (t : ℕ) → ltb t 9 ≡ true → word (mid t) ≡ word 0
  mid_stays t e = let z : t / 9 % 9 ≡ 0 = omega (arith, ltb-true t 9 e) in ap word z

  -- two corners and the mid between them, and two mids with the pixel between them
  pub corners_row : (l : List ℕ) (s a b d : ℕ) → s + 3 ≤ length l → Copies s (word 0) l
      → stored_unless (eqb d 0) (s + 2) (word (corner d))
      (stored_unless (ltb b 9) (s + 1) (word (mid b)) (stored_unless (eqb a 0) s (word (corner a)) l))
      ≡ put s (word (corner a) ∷ word (mid b) ∷ word (corner d) ∷ []) l
  corners_row l s a b d room k =
      three l s (word 0) (eqb a 0) (ltb b 9) (eqb d 0) _ _ _ room k (corner_stays a) (mid_stays b) (corner_stays d)

  pub mids_row : (l : List ℕ) (s a d : ℕ) → s + 3 ≤ length l → Copies s (word 0) l
      → stored_unless (ltb d 9) (s + 2) (word (mid d)) (stored_unless (ltb a 9) s (word (mid a)) l)
      ≡ put s (word (mid a) ∷ word 0 ∷ word (mid d) ∷ []) l
  mids_row l s a d room k = three l s (word 0) (ltb a 9) true (ltb d 9) _ (word 0) _ room k (mid_stays a) (λ e. refl) (mid_stays d)

  -- where no tag names a neighbour, a block of copies is the block
  pub plain_drawn : (ow at : ℕ) (t : Tags) (l : List ℕ) → at + 2 * ow + 3 ≤ length l → 3 ≤ ow → Plain ow at (word 0) l
      → t.t0 + 256 * t.t1 + 65536 * t.t2 + 16777216 * t.t3 ≡ 0 → l ≡ put_block ow at (block_from w h f x y t) l
  unfolding put_block block_from
  plain_drawn ow at t l room wide k z =
      let e0 : 0 ≡ t.t0 = omega arith in
      let e1 : 0 ≡ t.t1 = omega arith in
      let e2 : 0 ≡ t.t2 = omega arith in
      let e3 : 0 ≡ t.t3 = omega arith in
      let c = word 0 ∷ word 0 ∷ word 0 ∷ [] in
      let l₁ = put at c l in
      let n₁ : length l₁ ≡ length l = length_put at c l (omega arith) in
      let l₂ = put (at + ow) c l₁ in
      let n₂ : length l₂ ≡ length l₁ = length_put (at + ow) c l₁ (omega arith) in
      let none : Tags = record { t0 = 0; t1 = 0; t2 = 0; t3 = 0 } in
      let e : none ≡ t = λ i. record { t0 = e0 i; t1 = e1 i; t2 = e2 i; t3 = e3 i } in
      corners_row l at 0 0 0 (omega arith) k.top
      ∙ mids_row l₁ (at + ow) 0 0 (omega arith) (middle_stands ow at (word 0) c l l₁ refl refl wide room k).1
      ∙ corners_row l₂ (at + 2 * ow) 0 0 0 (omega arith) (bottom_stands ow at (word 0) c c l l₁ l₂ refl refl refl refl wide room k).1
      ∙ ap (λ (t : Tags). put_block ow at (block_from w h f x y t) l) e

-- ---- the same of a pixel's rows, as the code stores them

module _ (p : Pixel) (l : List ℕ) where
  by_test : (b : Bool) (i c : ℕ) (m : List ℕ) → stored p (cond b None (Some c)) i m ≡ stored_unless b i (named p c) m
  by_test true i c m = refl
  by_test false i c m = refl

  pub corners : (s a b d : ℕ) (x y z : Option ℕ) → x ≡ corner_of a → y ≡ mid_of b → z ≡ corner_of d → s + 3 ≤ length l
      → Copies s (named p 0) l → stored p z (s + 2) (stored p y (s + 1) (stored p x s l))
      ≡ put s (named p (corner a) ∷ named p (mid b) ∷ named p (corner d) ∷ []) l
  corners s a b d x y z ex ey ez room k =
      rw (ex, ey, ez, by_test (eqb a 0) s (corner a) l, by_test (ltb b 9) (s + 1) (mid b), by_test (eqb d 0) (s + 2) (corner d))
      (corners_row p.picture.w p.picture.h (words p.picture.w p.picture.words.now) p.x p.y l s a b d room k)

  pub mids : (s a d : ℕ) (x z : Option ℕ) → x ≡ mid_of a → z ≡ mid_of d → s + 3 ≤ length l → Copies s (named p 0) l
      → stored p z (s + 2) (stored p None (s + 1) (stored p x s l)) ≡ put s (named p (mid a) ∷ named p 0 ∷ named p (mid d) ∷ []) l
  mids s a d x z ex ez room k =
      rw (ex, ez, by_test (ltb a 9) s (mid a) l, by_test (ltb d 9) (s + 2) (mid d))
      (mids_row p.picture.w p.picture.h (words p.picture.w p.picture.words.now) p.x p.y l s a d room k)
