use Rattle.std.proofs.Common.{Some, sym, ap, ◌∙◌}
use Rattle.journal_audit.proofs.Finding.{end_reported, more_reported}
use Rattle.journal_audit.proofs.auditing.check_end.Goals as goal

pub returns-then-is_empty-clause-checks : goal.returns-then-is_empty-clause-checks
returns-then-is_empty-clause-checks c = λ scenario sections.
    end_reported scenario sections c.args.cursor.now c.rest.result.now (sym c.rest.ensures) (sym c.is_empty.ensures ∙ c.if-is_empty.true)

pub returns-clause-checks : goal.returns-clause-checks
returns-clause-checks c = λ scenario sections.
    more_reported scenario sections c.args.cursor.now c.rest.result.now (sym c.rest.ensures) (sym c.is_empty.ensures ∙ c.if-is_empty.false)
    ∙ ap Some (sym c.number.ensures)
