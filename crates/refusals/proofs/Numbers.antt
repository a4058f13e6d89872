-- A refusal's number is not 0, which says that nothing is refused: so the first check that refuses decides, and one that does not leaves
-- the next to decide. Assumes nothing.
use mathlib.Core.Path.{sym, ◌∙◌}
use Rattle.std.proofs.Common.{◌≡◌, ℕ, arith}
use Rattle.picture.specs.declared.refusal.Refusal.{Refusal}
use Rattle.picture.specs.declared.refusal.Refusal.TheVariants.{Side, Picture, Output, Scratch, Outside, Operand, Stale, Trailer, Long}
use Rattle.picture.specs.declared.refusal.Refusal.TheVariants.{Lock, Locked, Items, Clarity, Palette, Register, Range, Order}
use Rattle.picture.specs.Answer.{number_of}
use Rattle.header.specs.declared.Header.{Header}
use Rattle.machine.specs.Calls.{refusal_header, refusal_clarity, refusal_lent}
use Rattle.machine.proofs.Ends.{header_taken, header_refused, clarity_taken, clarity_refused, lent_refused, lent_next}

pub numbered : (e : Refusal) → number_of e ≡ 0 → ⊥
numbered Side h = omega arith
numbered Picture h = omega arith
numbered Output h = omega arith
numbered Scratch h = omega arith
numbered Outside h = omega arith
numbered Operand h = omega arith
numbered Stale h = omega arith
numbered Trailer h = omega arith
numbered Long h = omega arith
numbered Lock h = omega arith
numbered Locked h = omega arith
numbered Items h = omega arith
numbered Clarity h = omega arith
numbered Palette h = omega arith
numbered Register h = omega arith
numbered Range h = omega arith
numbered Order h = omega arith

module _ (header : Header) (next : ℕ) where
  -- the header's check refuses, whatever would come next
  pub header_first : (side : ℕ) (e : Refusal) → number_of e ≡ refusal_header side header 0 → number_of e ≡ refusal_header side header next
  header_first side e h = header_refused side header (number_of e) next h (numbered e)

  -- it does not, and what comes next decides
  pub header_next : (side x : ℕ) → 0 ≡ refusal_header side header 0 → x ≡ next → x ≡ refusal_header side header next
  header_next side x h q = let t = header_taken side header (sym h) in rw (t.0, t.1) q

  -- the same of the setting's check
  pub clarity_first : (e : Refusal) → number_of e ≡ refusal_clarity header 0 → number_of e ≡ refusal_clarity header next
  clarity_first e h = clarity_refused header (number_of e) next h (numbered e)

  pub clarity_next : (x : ℕ) → 0 ≡ refusal_clarity header 0 → x ≡ next → x ≡ refusal_clarity header next
  clarity_next x h q = rw (clarity_taken header (sym h)) q

  -- and of the checks of a call that is lent picture and marks
  pub lent_first : (side p m : ℕ) (e : Refusal) → number_of e ≡ refusal_lent side header p m 0
      → number_of e ≡ refusal_lent side header p m next
  lent_first side p m e h = lent_refused side header p m (number_of e) next h (numbered e)

  pub lent_then : (side p m x : ℕ) → 0 ≡ refusal_lent side header p m 0 → x ≡ next → x ≡ refusal_lent side header p m next
  lent_then side p m x h q = q ∙ lent_next side header p m next (sym h)
