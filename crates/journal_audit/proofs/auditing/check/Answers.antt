-- The sections are checked, then the lines after them, and that nothing follows.
use Rattle.std.proofs.Common.{[], sym}
use Rattle.std.proofs.lemmas.Result.{err_from_is_err_and}
use Rattle.run_laws.specs.Audit.{opening_audit}
use Rattle.journal_audit.proofs.Finding.{passed}
use Rattle.journal_audit.proofs.Sections.{report_ends}
use Rattle.journal_audit.proofs.auditing.check.Goals as goal
use Rattle.journal_audit.specs.Found.{between, found_from}

pub returns-in_err-check_last : goal.returns-in_err-check_last
returns-in_err-check_last c =
    let past = c.in_ok-check_parts.ensures in
    let p = err_from_is_err_and c.from_residual-in_err-check_last.result c.from_residual-in_err-check_last.ensures.1 in
    rw (p.1, p.2)
    (passed (Unit {0}) (Unit {0}) c.in_err-check_last.field-0.0 (found_from c.args.scenario.now (opening_audit c.args.scenario.now) c.args.cursor.now)
    (found_from c.args.scenario.now (between past.sections []) c.check_parts.new.cursor) _ _
    (c.in_err-check_last.ensures.checks c.args.scenario.now past.sections (sym c.as_slice.ensures) past.sums) past.same)

pub returns : goal.returns
returns c =
    let past = c.in_ok-check_parts.ensures in
    let threads = sym c.as_slice.ensures in
    report_ends c.check_end.result c.args.scenario.now c.args.cursor.now c.check_parts.new.cursor c.check_last.new.cursor c.check_parts.new.past past
    (c.in_ok-check_last.ensures.checks c.args.scenario.now past.sections threads past.sums)
    (c.in_ok-check_last.ensures.text c.args.scenario.now past.sections threads past.sums)
    (c.check_end.ensures.checks c.args.scenario.now past.sections) c.check_end.ensures.over
