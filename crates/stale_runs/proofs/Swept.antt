-- Parts of the picture whose stale blocks are drawn, one part after the other, in whatever order; and that the blocks of a run swept are
-- its first n stale blocks drawn, where no more than n were stale. Assumes nothing.
use mathlib.Core.Path.{◌≡◌, refl, sym, ap, ◌∙◌}
use mathlib.Core.Logic.{◌⊎◌, ⊎_elim}
use mathlib.Core.Bool.{Bool, true, false, cond, false≢true}
use mathlib.Core.List.{List, [], ◌++◌}
use Prim.Native.Nat.{ℕ, ◌+◌, ◌-◌, ◌*◌, ◌≤◌, ◌<◌}
use native.Mathlib.Omega.{arith}
use lib.ListN.{length, get_or, take}
use Rattle.machine.specs.Lists.{has, count}
use Rattle.machine.specs.Screen.{block_words}
use Rattle.machine.specs.Calls.{is_stale}
use Rattle.marks.specs.Marks.{stale_in, chosen}
use Rattle.marks.proofs.Counts.{length_stale, stale_at}
use Rattle.screens.specs.declared.frame.Frame.{Frame}
use Rattle.screens.specs.Screens.{screen_of}
use Rattle.screens.proofs.Screens.{lawful_of_lem}
use Rattle.stale_runs.specs.Frames.{DrawsOf, SweptOf}
use Rattle.machine.proofs.Lists.{bool_same, Below, first_from_below}
use Rattle.stale_runs.proofs.Loops.{draws_none, draws_two}
use Rattle.machine.proofs.Order.{append_cases, below_of, has_below, first_has, has_first}
use Rattle.machine.proofs.Order.{get_or_set_all, set_all_same, put_all_same}

-- ---- single marks

-- a mark that is stale when some are cleared was stale before, and one that was 0 stays so
still_stale : (t : Bool) (x : ℕ) → is_stale (cond t 0 x) ≡ true → is_stale x ≡ true
still_stale true x e = absurd (false≢true e)
still_stale false x e = e

still_clear : (t : Bool) (x : ℕ) → x ≡ 0 → cond t 0 x ≡ 0
still_clear true x e = refl
still_clear false x e = e

-- ---- parts

module _ (f : Frame) where
  -- a mark once some blocks are drawn
  mark_now : {bs out m out' m' : List ℕ} → DrawsOf f bs out m out' m' → (b : ℕ) → get_or m' b 0 ≡ cond (has bs b) 0 (get_or m b 0)
  mark_now {bs} {out} {m} d b = ap (λ (l : List ℕ). get_or l b 0) d.marks_now ∙ get_or_set_all bs m b

  pub stays_clear : {bs out m out' m' : List ℕ} → DrawsOf f bs out m out' m' → (b : ℕ) → get_or m b 0 ≡ 0 → get_or m' b 0 ≡ 0
  stays_clear {bs} {out} {m} d b e = mark_now d b ∙ still_clear (has bs b) (get_or m b 0) e

  -- a part with nothing stale
  pub swept_none : {R : ℕ → Type 0} (out m : List ℕ) → ((b : ℕ) → R b → get_or m b 0 ≡ 0) → SweptOf f R out m out m
  swept_none out m c = record {
    blocks = [];
    inside = λ b e. absurd (false≢true e);
    was_stale = λ b e. absurd (false≢true e);
    draws = draws_none f out m;
    clear = c;
  }

  -- a part that is all stale
  pub swept_all : {R : ℕ → Type 0} {bs out m out' m' : List ℕ} → DrawsOf f bs out m out' m' → ((b : ℕ) → has bs b ≡ true → R b)
      → ((b : ℕ) → R b → has bs b ≡ true) → ((b : ℕ) → R b → is_stale (get_or m b 0) ≡ true) → SweptOf f R out m out' m'
  swept_all {R} {bs} {out} {m} d i c s = record {
    blocks = bs;
    inside = i;
    was_stale = λ b e. s b (i b e);
    draws = d;
    clear = λ b r. mark_now d b ∙ ap (λ (t : Bool). cond t 0 (get_or m b 0)) (c b r);
  }

  -- two parts, one after the other
  pub swept_two : {R R₁ R₂ : ℕ → Type 0} {out m out' m' out'' m'' : List ℕ} → ((b : ℕ) → R₁ b → R b) → ((b : ℕ) → R₂ b → R b)
      → ((b : ℕ) → R b → R₁ b ⊎ R₂ b) → SweptOf f R₁ out m out' m' → SweptOf f R₂ out' m' out'' m''
      → SweptOf f R out m out'' m''
  swept_two {R} {R₁} {R₂} {out} {m} {out'} {m'} {out''} {m''} one two either s t = record {
    blocks = s.blocks ++ t.blocks;
    inside = λ b e. ⊎_elim (λ u. one b (s.inside b u)) (λ u. two b (t.inside b u)) (append_cases s.blocks t.blocks b e);
    was_stale = λ b e. ⊎_elim (s.was_stale b) (λ u. before b (t.was_stale b u)) (append_cases s.blocks t.blocks b e);
    draws = draws_two f s.draws t.draws;
    clear = λ b r. ⊎_elim (λ q. stays_clear t.draws b (s.clear b q)) (t.clear b) (either b r);
  }
    where
      before : (b : ℕ) → is_stale (get_or m' b 0) ≡ true → is_stale (get_or m b 0) ≡ true
      before b e = still_stale (has s.blocks b) (get_or m b 0) (ap is_stale (sym (mark_now s.draws b)) ∙ e)

  -- the same part, said otherwise
  pub swept_as : {R R' : ℕ → Type 0} {out m out' m' : List ℕ} → ((b : ℕ) → R b → R' b) → ((b : ℕ) → R' b → R b)
      → SweptOf f R out m out' m' → SweptOf f R' out m out' m'
  swept_as to back s = record {
    blocks = s.blocks;
    inside = λ b e. to b (s.inside b e);
    was_stale = s.was_stale;
    draws = s.draws;
    clear = λ b r. s.clear b (back b r);
  }

-- ---- a run of blocks in row order

-- the blocks lo to hi - 1
abbrev pub Run : ℕ → ℕ → ℕ → Type 0
Run lo hi b = (lo ≤ b) × (b < hi)

pub swept_done : (f : Frame) (lo hi n : ℕ) {out m out' m' : List ℕ} → SweptOf f (Run lo hi) out m out' m'
    → block_words (screen_of f.scale) * (f.picture.w * f.picture.h) ≤ length out → lo ≤ hi → hi ≤ f.picture.w * f.picture.h → hi ≤ length m
    → count (stale_in lo hi m) ≤ n → DrawsOf f (chosen lo hi n m) out m out' m'
swept_done f lo hi n {out} {m} {out'} {m'} s room up top long few = record {
  output_now =
      s.draws.output_now
      ∙ put_all_same (screen_of f.scale) (lawful_of_lem f.scale) f.picture.w f.picture.h f.clarity
      (take (f.picture.w * f.picture.h) f.picture.words.now) s.blocks (chosen lo hi n m) out
      (below_of (f.picture.w * f.picture.h) s.blocks (λ b e. omega (arith, s.inside b e))) (low (f.picture.w * f.picture.h) top) room same;
  marks_now = s.draws.marks_now ∙ set_all_same s.blocks (chosen lo hi n m) m same;
}
  where
    low : (k : ℕ) → hi ≤ k → Below k (chosen lo hi n m)
    low k l = first_from_below lo n (stale_in lo hi m) k (omega (arith, length_stale lo hi m long))

    there : (b : ℕ) → has s.blocks b ≡ true → has (chosen lo hi n m) b ≡ true
    there b t =
        let i = s.inside b t in
        let j : ℕ = b - lo in
        let q : lo + j ≡ b = omega arith in
        first_has lo n (stale_in lo hi m) b j few (omega arith)
        (stale_at lo hi j m (omega arith) ∙ ap (λ (i : ℕ). is_stale (get_or m i 0)) q ∙ s.was_stale b t)

    -- a block that is not drawn would still be stale
    drawn : (b : ℕ) (t : Bool) → has s.blocks b ≡ t → Run lo hi b → is_stale (get_or m b 0) ≡ true → t ≡ true
    drawn b true q u v = refl
    drawn b false q u v =
        let z : get_or m b 0 ≡ 0 =
        ap (λ (t : Bool). cond t 0 (get_or m b 0)) (sym q) ∙ sym (get_or_set_all s.blocks m b)
        ∙ ap (λ (l : List ℕ). get_or l b 0) (sym s.draws.marks_now) ∙ s.clear b u in
        ap is_stale (sym z) ∙ v

    back : (b : ℕ) → has (chosen lo hi n m) b ≡ true → has s.blocks b ≡ true
    back b t =
        let j = has_first lo n (stale_in lo hi m) b t in
        let q : lo + j.0 ≡ b = omega (arith, j.1) in
        let u : b < hi = has_below hi (chosen lo hi n m) (low hi (omega arith)) b t in
        drawn b (has s.blocks b) refl (omega arith, u)
        (ap (λ (i : ℕ). is_stale (get_or m i 0)) (sym q) ∙ sym (stale_at lo hi j.0 m (omega (arith, u, q))) ∙ j.2)

    same : (b : ℕ) → has s.blocks b ≡ has (chosen lo hi n m) b
    same b = bool_same (has s.blocks b) (has (chosen lo hi n m) b) (there b) (back b)
