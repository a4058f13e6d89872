-- What an answer carries, or what stands in its place beside a refusal. Definitions only.
use Rattle.std.specs.Prelude.{Ok, Err, Result}
use Rattle.picture.specs.declared.refusal.Refusal.{Refusal}
use Rattle.header.specs.declared.Header.{Header}
use Rattle.header.specs.Header.{no_header}
use Rattle.calls.specs.declared.Opened.{Opened}

-- of an opening
abbrev pub opened_in : Result Opened Refusal → Opened
opened_in (Ok opened) = opened
opened_in (Err _) = record { header = no_header; stale = 0 }

-- of a lock
abbrev pub header_in : Result Header Refusal → Header
header_in (Ok header) = header
header_in (Err _) = no_header
