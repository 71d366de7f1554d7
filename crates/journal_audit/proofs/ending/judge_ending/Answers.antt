use Rattle.std.proofs.Common.{◌++◌, ◌∷◌, [], Some, ap, sym, ◌∙◌}
use Rattle.std.proofs.lemmas.Result.{err_from_is_err_and}
use Rattle.run_laws.proofs.Wholes.{section_end_ended}
use Rattle.run_laws.specs.Audit.{done_of, section_end}
use Rattle.run_results.specs.declared.report.PartReport.{PartReport}
use Rattle.journal_audit.specs.Found.{between}
use Rattle.journal_audit.proofs.Endings.{departs_found, ending_due, ending_early}
use Rattle.journal_audit.proofs.Lines.{due_followed}
use Rattle.journal_audit.proofs.ending.judge_ending.Goals as goal

pub returns-then-not-is_complete-clause-checks : goal.returns-then-not-is_complete-clause-checks
returns-then-not-is_complete-clause-checks c = λ scenario sections coming ending.
    let early = sym c.is_complete.ensures ∙ c.if-not-is_complete.true in
    ending_early scenario sections c.args.section.now coming c.args.cursor.now ending early ∙ ap Some (sym c.number.ensures)

pub returns-in_err-compare_ending-clause-checks : goal.returns-in_err-compare_ending-clause-checks
returns-in_err-compare_ending-clause-checks c = λ scenario sections coming ending.
    let complete = sym c.is_complete.ensures ∙ c.if-not-is_complete.false in
    let q = err_from_is_err_and c.from_residual-in_err-compare_ending.result c.from_residual-in_err-compare_ending.ensures.1 in
    rw (q.1, q.2)
    (departs_found (Unit {0}) PartReport c.in_err-compare_ending.field-0.0 scenario (between (sections ++ done_of c.args.section.now ∷ []) coming)
    (section_end c.args.section.now) c.args.cursor.now _ _ (section_end_ended c.args.section.now)
    (ending_due scenario sections c.args.section.now coming c.args.cursor.now ending complete (section_end_ended c.args.section.now)) c.in_err-compare_ending.ensures.unfit)

pub returns-clause-checks : goal.returns-clause-checks
returns-clause-checks c = λ scenario sections coming ending.
    let complete = sym c.is_complete.ensures ∙ c.if-not-is_complete.false in
    ending_due scenario sections c.args.section.now coming c.args.cursor.now ending complete (section_end_ended c.args.section.now)
    ∙ due_followed scenario (between (sections ++ done_of c.args.section.now ∷ []) coming) (section_end c.args.section.now) c.args.cursor.now
    c.compare_ending.new.cursor (section_end_ended c.args.section.now) c.in_ok-compare_ending.ensures.ok
