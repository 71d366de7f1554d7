-- The next line is missing, or is that of an event, which fits or does not.
use Rattle.std.proofs.Common.{ℕ, List, Bor, Bool, Some, refl, sym, ap, subst, ◌∙◌}
use Rattle.std.proofs.lemmas.Result.{err_from_is_err_and}
use Rattle.journal_audit.proofs.Finding.{event_refused, no_line_unfit, stopped}
use Rattle.journal_audit.proofs.Reading.{reads_none, reads_taken}
use Rattle.journal_audit.specs.Readings.{Reads}
use Rattle.journal_audit.proofs.auditing.check_event.Goals as goal
use Rattle.journal_audit.specs.Found.{found_from, inside}
use Rattle.journal_audit.specs.Position.{HasNoLine}

pub returns-in_err-line-clause-checks : goal.returns-in_err-line-clause-checks
returns-in_err-line-clause-checks c = λ scenario sections coming.
    let p = err_from_is_err_and c.from_residual.result c.from_residual.ensures.1 in
    rw (p.1, p.2)
    (stopped (Bor (List ℕ)) Bool c.in_err-line.field-0.0 (found_from scenario (inside sections c.args.section.now coming) c.args.cursor.now) _
    (HasNoLine c.args.cursor.now) c.in_err-line.ensures.unfit
    (λ line h. no_line_unfit scenario (inside sections c.args.section.now coming) c.args.cursor.now line refl h))

pub returns-then-not-branch-clause-checks : goal.returns-then-not-branch-clause-checks
returns-then-not-branch-clause-checks c = λ scenario sections coming.
    event_refused scenario sections coming c.args.section.now c.after_event.new.self c.args.cursor.now c.in_ok-line.line.now c.in_ok-after_event.field-0
    c.in_ok-line.ensures.ok (sym c.is_numbered.ensures ∙ c.if-not-is_numbered.false) c.if-not-branch.true c.in_ok-after_event.ensures
    ∙ ap Some (sym c.number.ensures)

pub returns-clause-checks : goal.returns-clause-checks
returns-clause-checks c = λ scenario sections coming.
    let read = reads_taken c.args.section.now c.after_event.new.self c.args.cursor.now c.in_ok-line.line.now c.in_ok-after_event.field-0
    c.in_ok-line.ensures.ok (sym c.is_numbered.ensures ∙ c.if-not-is_numbered.false) c.if-not-branch.false c.in_ok-after_event.ensures in
    read.same scenario sections coming ∙ ap (found_from scenario (inside sections c.after_event.new.self coming)) (sym c.skip.ensures)

pub returns-then-not-is_numbered-clause-reads : goal.returns-then-not-is_numbered-clause-reads
returns-then-not-is_numbered-clause-reads c = reads_none c.args.section.now c.args.cursor.now

pub returns-clause-reads : goal.returns-clause-reads
returns-clause-reads c =
    subst (Reads c.args.section.now c.after_event.new.self c.args.cursor.now) (sym c.skip.ensures)
    (reads_taken c.args.section.now c.after_event.new.self c.args.cursor.now c.in_ok-line.line.now c.in_ok-after_event.field-0
    c.in_ok-line.ensures.ok (sym c.is_numbered.ensures ∙ c.if-not-is_numbered.false) c.if-not-branch.false c.in_ok-after_event.ensures)
