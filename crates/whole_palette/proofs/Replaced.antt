-- The replaced picture in its buffer, and the call without a palette that then takes it; once for both calls, whatever their limits and
-- lengths. Assumes nothing.
use mathlib.Core.Path.{◌≡◌, sym, ap, ◌∙◌, subst}
use mathlib.Core.List.{List}
use Prim.Native.Nat.{ℕ, ◌+◌, ◌≤◌, ◌<◌}
use native.Mathlib.Omega.{arith}
use lib.ListN.{length, get_or, take, drop}
use lib.Seq.{drop_at, get_or-take}
use Rattle.picture.specs.Fill.{put, take_front, length_put}
use Rattle.clarity.specs.declared.Clarity.{Clarity}
use Rattle.sizes.specs.declared.Asked.{Asked}
use Rattle.sizes.specs.declared.Lengths.{Lengths}
use Rattle.sizes.specs.Sizes.{refusal_of}
use Rattle.sizes.proofs.Sizes.{accepted}
use Rattle.palette.specs.Palette.{nearest_of, replaced_of}
use Rattle.palette.specs.Claims.{Nearest}
use Rattle.palette.proofs.Laws.{nearest_first, replaced_length, replaced_word}
use Rattle.whole_palette.specs.Calls.{refusal_palette}
use Rattle.whole_palette.specs.Claims.{Replaces}
use Rattle.whole_palette.proofs.Refusals.{others_take, has_entry, without, lending, taken_too}

-- what is known where the number is 0: the picture is read and the buffer has room for n words, and the palette has an entry
pub record Ready (n : ℕ) (p palette x : List ℕ) : Type 0 where
  pub read : n ≤ length p
  pub room : n ≤ length x
  pub entry : 0 < length palette

module _ (n : ℕ) (p palette x x' : List ℕ) (k : Ready n p palette x) (e : x' ≡ put 0 (replaced_of palette n p) x) where
  long : length (replaced_of palette n p) ≡ n
  long = replaced_length palette p n k.read

  -- the part that is enlarged is the replaced picture
  pub part : take n x' ≡ replaced_of palette n p
  part = ap (take n) e ∙ take_front (replaced_of palette n p) x n long

  pub part_long : n ≤ length (take n x')
  part_long = omega (arith, ap length part ∙ long)

  pub replaces : Replaces n p palette x x'
  unfolding put
  replaces = record {
    each = λ i h. subst (Nearest palette (get_or p i 0)) (sym (word i h)) (nearest_first palette (get_or p i 0) k.entry);
    long = ap length e ∙ length_put 0 (replaced_of palette n p) x (omega (arith, long, k.room));
    past = ap (drop n) e ∙ drop_at (replaced_of palette n p) (drop (0 + length (replaced_of palette n p)) x) n long ∙ ap (λ (i : ℕ). drop i x) places;
  }
    where
      word : (i : ℕ) → i < n → get_or x' i 0 ≡ nearest_of palette (get_or p i 0)
      word i h = sym (get_or-take n x' i 0 h) ∙ ap (λ (l : List ℕ). get_or l i 0) part ∙ replaced_word palette p n i k.read h

      places : 0 + length (replaced_of palette n p) ≡ n
      places = omega (arith, long)

-- a call that asks for n words of the picture and of the replaced picture, and is lent p and x
module _ (q : Clarity) (limit w h n output middle scratch : ℕ) (p palette x : List ℕ) (o m s b r : ℕ) where
  abbrev asking : Asked
  asking = record { limit = limit; w = w; h = h; picture = n; replaced = n; output = output; middle = middle; scratch = scratch }

  abbrev lent : Lengths
  lent = record { picture = length p; replaced = length x; output = o; middle = m; singles = s; bytes = b }

  module _ (e : r ≡ refusal_palette (refusal_of q asking lent) (length palette)) (z : r ≡ 0) where
    nothing_else : refusal_of q asking lent ≡ 0
    nothing_else = others_take _ _ (sym e ∙ z)

    pub ready : Ready n p palette x
    ready =
        let a = accepted q asking lent nothing_else in
        record { read = a.picture_fits; room = a.replaced_fits; entry = has_entry _ _ (sym e ∙ z) }

    -- the call without a palette, lent the replaced picture, is not refused
    pub plain_taken : (x' : List ℕ) → x' ≡ put 0 (replaced_of palette n p) x
        → refusal_of q (without asking) (lending (length (take n x')) lent) ≡ 0
    plain_taken x' ex = taken_too q asking lent (length (take n x')) (part_long n p palette x x' ready ex) nothing_else
