-- What `specs/Claims.antt` says of the calls with a palette. Assumes nothing.
use mathlib.Core.Path.{◌≡◌, refl, sym, ap, ◌∙◌, subst}
use mathlib.Core.List.{List, [], ◌∷◌}
use Prim.Native.Nat.{ℕ, ◌+◌, ◌*◌}
use native.Mathlib.Omega.{arith}
use lib.Ieee.{Float}
use lib.ListN.{length, get_or, take}
use borrow.Author.Tests.{ne_eqb}
use Rattle.picture.specs.Picture.{words}
use Rattle.picture.specs.Fill.{put, put_nil}
use Rattle.clarity.specs.declared.Clarity.{Clarity}
use Rattle.sizes.specs.Sizes.{asked3, lent3, asked9, lent9}
use Rattle.enlarged.specs.Whole.{scale_of, singles_of, bytes_of}
use Rattle.enlarged.specs.Laws.{scale_length, singles_length, bytes_length}
use Rattle.whole.specs.Calls.{filled}
use Rattle.whole.proofs.Sizes.{nine_words}
use Rattle.palette.specs.Palette.{replaced_of}
use Rattle.palette.proofs.Laws.{nearest_laws, replaced_length}
use Rattle.whole_palette.specs.Calls.{ScalesBy, ScalesBy9}
use Rattle.whole_palette.specs.Claims.{EntryOf, By3, By9, PaletteLaws}
use Rattle.whole_palette.proofs.Refusals.{in_turn}
use Rattle.whole_palette.proofs.Replaced.{Ready, part, replaces, ready, plain_taken}
use Rattle.whole_palette.proofs.Entries.{entries_three, entries_nine}

-- a call that is not refused has written, and one that is refused has not
is_written : {E : Type 0} (r : ℕ) (vs l l' : List E) → r ≡ 0 → l' ≡ filled r vs l → l' ≡ put 0 vs l
is_written r vs l l' z e = e ∙ ap (λ (n : ℕ). filled n vs l) z

is_kept : {E : Type 0} (r : ℕ) (vs l l' : List E) → (r ≡ 0 → ⊥) → l' ≡ filled r vs l → l' ≡ l
is_kept r vs l l' d e = e ∙ rw (ne_eqb r 0 d)

-- a list without elements writes nothing
no_words : {E : Type 0} (vs l : List E) → length vs ≡ 0 → put 0 vs l ≡ l
no_words [] l e = put_nil 0 l (omega arith)
no_words (v ∷ vs) l e = absurd (omega arith)

module _ {q : Clarity} {w h : ℕ} {p palette x o : List ℕ} {s : List Float} {b x' o' : List ℕ} {s' : List Float} {b' : List ℕ} {r : ℕ}
    (c : ScalesBy q w h p palette x o s b x' o' s' b' r) where
  three : By3 q w h p palette x o s b x' o' s' b' r
  three = record {
    replaces = λ z. replaces (w * h) p palette x x' (fits z) (stored z);
    enlarges = λ z. record {
      refusal_now = z ∙ sym (plain_taken q 2048 w h (w * h) (9 * (w * h)) 0 (8 * (w * h)) p palette x (length o) 0 (length s) (length b) r c.refusal_now z x' (stored z));
      output_now = c.output_now ∙ ap (λ (l : List ℕ). filled r (scale_of q w h (words w l)) o) (sym (same z));
      singles_now = c.singles_now ∙ ap (λ (l : List ℕ). filled r (singles_of q w h (words w l)) s) (sym (same z));
      bytes_now = c.bytes_now ∙ ap (λ (l : List ℕ). filled r (bytes_of q w h (words w l)) b) (sym (same z));
    };
    entries_only = λ z i j a e. subst (λ (l : List ℕ). EntryOf palette (get_or l (j * (3 * w) + i) 0)) (sym (is_written r _ o o' z c.output_now))
        (entries_three w h p palette x (fits z) q o i j a e);
    refuses = in_turn q (asked3 w h (w * h) (w * h)) (lent3 (length x) p o s b) palette x r refl c.refusal_now;
    keeps = λ d. (
      is_kept r _ x x' d c.replaced_after,
      is_kept r _ o o' d c.output_now,
      is_kept r _ s s' d c.singles_now,
      is_kept r _ b b' d c.bytes_now,
    );
    nothing = λ z e. (
      stored z ∙ no_words (replaced_of palette (w * h) p) x (omega (arith, replaced_length palette p (w * h) (fits z).read)),
      is_written r _ o o' z c.output_now ∙ no_words (scale_of q w h picture) o (omega (arith, scale_length q w h picture)),
      is_written r _ s s' z c.singles_now ∙ no_words (singles_of q w h picture) s (omega (arith, singles_length q w h picture)),
      is_written r _ b b' z c.bytes_now ∙ no_words (bytes_of q w h picture) b (omega (arith, bytes_length q w h picture)),
    );
  }
    where
      picture : ℕ → ℕ → ℕ
      picture = words w (replaced_of palette (w * h) p)

      fits : r ≡ 0 → Ready (w * h) p palette x
      fits z = ready q 2048 w h (w * h) (9 * (w * h)) 0 (8 * (w * h)) p palette x (length o) 0 (length s) (length b) r c.refusal_now z

      stored : r ≡ 0 → x' ≡ put 0 (replaced_of palette (w * h) p) x
      stored z = is_written r _ x x' z c.replaced_after

      same : r ≡ 0 → take (w * h) x' ≡ replaced_of palette (w * h) p
      same z = part (w * h) p palette x x' (fits z) (stored z)

module _ {q : Clarity} {w h : ℕ} {p palette x o m : List ℕ} {s : List Float} {b x' o' m' : List ℕ} {s' : List Float} {b' : List ℕ} {r : ℕ}
    (c : ScalesBy9 q w h p palette x o m s b x' o' m' s' b' r) where
  nine : By9 q w h p palette x o m s b x' o' m' s' b' r
  nine = record {
    replaces = λ z. replaces (w * h) p palette x x' (fits z) (stored z);
    enlarges = λ z. record {
      refusal_now = z ∙ sym (plain_taken q 682 w h (w * h) (81 * (w * h)) (9 * (w * h)) (72 * (w * h)) p palette x (length o) (length m) (length s) (length b) r c.refusal_now z x' (stored z));
      middle_now = c.middle_now ∙ ap (λ (l : List ℕ). filled r (scale_of q w h (words w l)) m) (sym (same z));
      output_now = c.output_now ∙ ap (λ (l : List ℕ). filled r (scale_of q (3 * w) (3 * h) (again l)) o) (sym (same z));
      singles_now = c.singles_now ∙ ap (λ (l : List ℕ). filled r (singles_of q (3 * w) (3 * h) (again l)) s) (sym (same z));
      bytes_now = c.bytes_now ∙ ap (λ (l : List ℕ). filled r (bytes_of q (3 * w) (3 * h) (again l)) b) (sym (same z));
    };
    entries_only = λ z i j a e. subst (λ (l : List ℕ). EntryOf palette (get_or l (j * (9 * w) + i) 0)) (sym (is_written r _ o o' z c.output_now))
        (entries_nine w h p palette x (fits z) q o i j a e);
    refuses = in_turn q (asked9 w h (w * h) (w * h)) (lent9 (length x) p o m s b) palette x r refl c.refusal_now;
    keeps = λ d. (
      is_kept r _ x x' d c.replaced_after,
      is_kept r _ o o' d c.output_now,
      is_kept r _ m m' d c.middle_now,
      is_kept r _ s s' d c.singles_now,
      is_kept r _ b b' d c.bytes_now,
    );
    nothing = λ z e. (
      stored z ∙ no_words (replaced_of palette (w * h) p) x (omega (arith, replaced_length palette p (w * h) (fits z).read)),
      is_written r _ o o' z c.output_now ∙ no_words (scale_of q (3 * w) (3 * h) first) o (omega (arith, scale_length q (3 * w) (3 * h) first, nine_words w h)),
      is_written r _ m m' z c.middle_now ∙ no_words (scale_of q w h picture) m (omega (arith, scale_length q w h picture)),
      is_written r _ s s' z c.singles_now ∙ no_words (singles_of q (3 * w) (3 * h) first) s (omega (arith, singles_length q (3 * w) (3 * h) first, nine_words w h)),
      is_written r _ b b' z c.bytes_now ∙ no_words (bytes_of q (3 * w) (3 * h) first) b (omega (arith, bytes_length q (3 * w) (3 * h) first, nine_words w h)),
    );
  }
    where
      picture : ℕ → ℕ → ℕ
      picture = words w (replaced_of palette (w * h) p)

      first : ℕ → ℕ → ℕ
      first = words (3 * w) (scale_of q w h picture)

      again : List ℕ → ℕ → ℕ → ℕ
      again l = words (3 * w) (scale_of q w h (words w l))

      fits : r ≡ 0 → Ready (w * h) p palette x
      fits z = ready q 682 w h (w * h) (81 * (w * h)) (9 * (w * h)) (72 * (w * h)) p palette x (length o) (length m) (length s) (length b) r c.refusal_now z

      stored : r ≡ 0 → x' ≡ put 0 (replaced_of palette (w * h) p) x
      stored z = is_written r _ x x' z c.replaced_after

      same : r ≡ 0 → take (w * h) x' ≡ replaced_of palette (w * h) p
      same z = part (w * h) p palette x x' (fits z) (stored z)

pub palette_laws : PaletteLaws
palette_laws = record {
  entries = nearest_laws;
  three = λ {q} {w} {h} {p} {palette} {x} {o} {s} {b} {x'} {o'} {s'} {b'} {r} c. three c;
  nine = λ {q} {w} {h} {p} {palette} {x} {o} {m} {s} {b} {x'} {o'} {m'} {s'} {b'} {r} c. nine c;
}
