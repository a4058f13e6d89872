-- What an answer carries, or what stands in its place beside a refusal. Definitions only.
use Rattle.std.specs.Prelude.{cond, false, ℕ, Ok, Err, Result}
use Rattle.picture.specs.declared.refusal.Refusal.{Refusal}
use Rattle.painted.specs.declared.Painted.{Painted}

-- of a paint
abbrev pub painted_in : Result Painted Refusal → Painted
painted_in (Ok painted) = painted
painted_in (Err _) = record { changed = false; stale = 0 }

-- 1 where the word was stored, 0 where it was there already or is refused
abbrev pub changed_in : Result Painted Refusal → ℕ
changed_in answer = cond (painted_in answer).changed 1 0

-- of a paint list, the stale count
abbrev pub count_in : Result ℕ Refusal → ℕ
count_in (Ok stale) = stale
count_in (Err _) = 0
