-- What an answer carries, or what stands in its place beside a refusal. Definitions only.
use Rattle.std.specs.Prelude.{ℕ, List, Ok, Err, Result, replicate}
use Rattle.picture.specs.declared.refusal.Refusal.{Refusal}
use Rattle.header.specs.declared.Header.{Header}
use Rattle.header.specs.Header.{no_header}
use Rattle.session.specs.declared.Session.{Session}
use Rattle.session.specs.declared.Opened.{Opened}

-- of an opening: the header of the session, and the stale count
abbrev pub opened_header : {S : Type 0} {N : ℕ} → Result (Opened S N) Refusal → Header
opened_header (Ok opened) = opened.session.header
opened_header (Err _) = no_header

abbrev pub opened_stale : {S : Type 0} {N : ℕ} → Result (Opened S N) Refusal → ℕ
opened_stale (Ok opened) = opened.stale
opened_stale (Err _) = 0

-- of a lock: the header of the session
abbrev pub locked_header : {S : Type 0} {N : ℕ} → Result (Session S N) Refusal → Header
locked_header (Ok session) = session.header
locked_header (Err _) = no_header

-- of a show: the words of a block that has n
abbrev pub shown_words : ℕ → Result (List ℕ) Refusal → List ℕ
shown_words n (Ok words) = words
shown_words n (Err _) = replicate n 0
