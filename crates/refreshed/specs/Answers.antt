-- What an answer carries, or what stands in its place beside a refusal. Definitions only.
use Rattle.std.specs.Prelude.{Ok, Err, Result}
use Rattle.picture.specs.declared.refusal.Refusal.{Refusal}
use Rattle.refreshed.specs.declared.Refreshed.{Refreshed}

abbrev pub refreshed_in : Result Refreshed Refusal → Refreshed
refreshed_in (Ok refreshed) = refreshed
refreshed_in (Err _) = record { drawn = 0; left = 0 }
