-- What a refresh promises, by the screen's own numbers: of one that is refused and of one that is not. Assumes nothing.
use mathlib.Core.Path.{◌≡◌, refl, sym, ap, ◌∙◌}
use mathlib.Core.List.{List}
use Prim.Native.Nat.{ℕ, ◌-◌, ◌*◌, min}
use native.Mathlib.Omega.{arith}
use lib.ListN.{length, take}
use Rattle.picture.specs.declared.refusal.Refusal.{Refusal}
use Rattle.picture.specs.Answer.{number_of}
use Rattle.header.specs.declared.Header.{Header}
use Rattle.machine.specs.Lists.{set_all, count, first}
use Rattle.machine.specs.Screen.{block_words}
use Rattle.machine.specs.Machine.{put_all}
use Rattle.machine.specs.Lent.{Lent}
use Rattle.machine.specs.Calls.{stale_of, refusal_all, Refreshes}
use Rattle.machine.proofs.Lists.{first_length}
use Rattle.machine.proofs.Ends.{lent, refresh_refused, refresh_done}
use Rattle.refusals.proofs.Numbers.{numbered}
use Rattle.screens.specs.Screens.{screen_of}

module _ (scale side : ℕ) (by_side : side ≡ (screen_of scale).side) (each : ℕ) (by_words : each ≡ block_words (screen_of scale))
    (header : Header) (p o m : List ℕ) where
  all_of : (r : ℕ) → r ≡ refusal_all side each header (length p) (length o) (length m)
      → r ≡ refusal_all (screen_of scale).side (block_words (screen_of scale)) header (length p) (length o) (length m)
  all_of r q = q ∙ (λ i. refusal_all (by_side i) (by_words i) header (length p) (length o) (length m))

  pub refresh_told : (n : ℕ) (e : Refusal) → number_of e ≡ refusal_all side each header (length p) (length o) (length m)
      → Refreshes (screen_of scale) header p o m n (record { output = o; marks = m; refusal = number_of e; drawn = 0; left = 0 })
  refresh_told n e q = refresh_refused (screen_of scale) header p o m n (number_of e) (all_of (number_of e) q) (numbered e)

  module _ (q : 0 ≡ refusal_all side each header (length p) (length o) (length m)) where
    pub refresh_lent : Lent (screen_of scale) header.w header.h (length p) (length o) (length m)
    refresh_lent = lent (screen_of scale) header (length p) (length o) (length m) (sym (all_of 0 q))

    -- of stale blocks, as many as n were drawn
    pub refresh_taken : (n stale drawn : ℕ) (o' m' : List ℕ) → stale ≡ count (stale_of (header.w * header.h) m) → drawn ≡ min stale n
        → o' ≡ put_all (screen_of scale) header.w header.h header.clarity (take (header.w * header.h) p)
        (first n (stale_of (header.w * header.h) m)) o
        → m' ≡ set_all (first n (stale_of (header.w * header.h) m)) 0 m
        → Refreshes (screen_of scale) header p o m n (record { output = o'; marks = m'; refusal = 0; drawn = drawn; left = stale - drawn })
    refresh_taken n stale drawn o' m' es ed eo em =
        refresh_done (screen_of scale) header p o m n 0 (all_of 0 q) refl o' m' drawn (stale - drawn)
        (omega (arith, es, ed, first_length n (stale_of (header.w * header.h) m))) eo em (ap (λ (k : ℕ). k - drawn) es)
