-- `refusals::check_show` meets its contract. Assumes nothing.
use mathlib.Core.Path.{sym, subst}
use mathlib.Core.Bool.{cond}
use mathlib.Core.List.{List}
use Rattle.std.proofs.Common.{ℕ, ◌+◌, ◌*◌, ◌≤◌, length, get_or, rules}
use Rattle.std.proofs.lemmas.Result.{err_from_is_err_and}
use borrow.Author.Tests.{le-ltb}
use Rattle.picture.specs.Refusal as refusal
use Rattle.header.specs.declared.Header.{Header}
use Rattle.machine.specs.Machine.{inside}
use Rattle.machine.specs.Calls.{is_stale}
use Rattle.machine.proofs.Ends.{header_taken}
use Rattle.refusals.proofs.Numbers.{header_first, clarity_first}
use Rattle.refusals.proofs.check_show.Goals as goal

-- what decides after the setting
abbrev of_block : Header → List ℕ → ℕ → ℕ → ℕ
of_block header marks bx by =
    cond (inside header.w header.h bx by)
    (cond (is_stale (get_or marks (by * header.w + bx) 0)) refusal.stale refusal.none)
    refusal.outside

pub returns-in_err-check_header : goal.returns-in_err-check_header
returns-in_err-check_header c = search (rules, header_first)

pub returns-in_err-check_clarity : goal.returns-in_err-check_clarity
returns-in_err-check_clarity c =
    let a = c.args in
    let e = c.in_err-check_clarity in
    let t = header_taken a.side a.header (sym c.in_ok-check_header.ensures) in
    let k = clarity_first a.header (of_block a.header a.marks.now a.bx a.by) e.field-0.0 e.ensures in
    let r = c.from_residual-in_err-check_clarity in
    let p = err_from_is_err_and r.result r.ensures.1 in
    let room = subst (λ (n : ℕ). a.words * n ≤ a.o) c.blocks-n.ensures c.if-o-words.false in
    let marked = subst (λ (n : ℕ). n ≤ length a.marks.now) c.blocks-n.ensures c.if-m-n.false in
    rw (p.1, p.2, t.0, t.1, le-ltb a.o _ room, le-ltb (length a.marks.now) _ marked) k
