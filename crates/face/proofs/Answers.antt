-- What an answer carries, or its default, is what stands for it beside a refusal. Assumes nothing.
use mathlib.Core.Path.{◌≡◌}
use Prim.Native.Nat.{ℕ}
use Rattle.std.proofs.Common.{Result, Ok, Err}
use Rattle.std.specs.Result.{ResultUnwrapsOrElse}
use Rattle.picture.specs.declared.refusal.Refusal.{Refusal}
use Rattle.header.specs.declared.Header.{Header}
use Rattle.header.specs.Header.{no_header}
use Rattle.calls.specs.declared.Opened.{Opened}
use Rattle.calls.specs.Answers.{opened_in, header_in}
use Rattle.painted.specs.Answers.{count_in}

pub opened_or : (r : Result Opened Refusal) (x : Opened) → ResultUnwrapsOrElse r (λ x. (x.header ≡ no_header) × (x.stale ≡ 0)) x
    → x ≡ opened_in r
opened_or (Ok o) x h = h
opened_or (Err e) x h = λ i. record { header = h.0 i; stale = h.1 i }

pub header_or : (r : Result Header Refusal) (x : Header) → ResultUnwrapsOrElse r (λ x. x ≡ no_header) x → x ≡ header_in r
header_or (Ok o) x h = h
header_or (Err e) x h = h

pub count_or : (r : Result ℕ Refusal) (x : ℕ) → ResultUnwrapsOrElse r (λ x. x ≡ 0) x → x ≡ count_in r
count_or (Ok o) x h = h
count_or (Err e) x h = h
