use Rattle.std.proofs.Common.{◌≡◌, List, ◌++◌, [], ap, sym, subst, ◌∙◌}
use Rattle.nook_data.specs.declared.scenario.Scenario.{Scenario}
use Rattle.run_laws.specs.Audit.{Done, last_lines}
use Rattle.journal_audit.specs.PastSections.{SumsUp}
use Rattle.report_defs.specs.ReportText.{ending_text, threads_text}
use Rattle.run_results.specs.Statuses.{status_number}
use Rattle.report_text.specs.Writing.{Wrote}
use Rattle.journal_audit.specs.Comparisons.{Comparison, change_in, untouched}
use Rattle.journal_audit.specs.Found.{at_last, found_from}
use Rattle.journal_audit.specs.Stopping.{Checks}
use Rattle.run_laws.proofs.Wholes.{last_lines_ended}
use Rattle.journal_audit.proofs.Taken.{Held, text_kept}
use Rattle.journal_audit.proofs.Endings.{due_checked, last_due, last_text, settled_ok, settled_unfit}
use Rattle.journal_audit.proofs.last.check_last.Goals as goal
use Rattle.journal_audit.proofs.last.check_last.Goals.{After-write_last-written}

held : (c : After-write_last-written)
    → Held c.write_last-written.new.sink c.args.cursor.now.rest c.write_last-written.result
    (threads_text 0 c.args.threads.now c.as_slice.result.now ++ ending_text c.in_ok-taps.taps (status_number c.status.result))
held c = record {
  is =
      subst
      (λ (x : Comparison). Wrote (change_in x c.write_last-written.new.sink) c.write_last-written.result
      (threads_text 0 c.args.threads.now c.as_slice.result.now ++ ending_text c.in_ok-taps.taps (status_number c.status.result)))
      (c.new-compared.ensures ∙ ap untouched c.rest.ensures) c.write_last-written.ensures;
}

pub settle-requires : goal.settle-requires
settle-requires c = text_kept _ _ _ _ (held (goal.at.settle-requires c).After-write_last-written)

wrote : (c : After-write_last-written) (scenario : Scenario) (sections : List Done) → scenario.threads ≡ c.args.threads.now
    → SumsUp scenario.parts sections c.args.past.now
    → Held c.write_last-written.new.sink c.args.cursor.now.rest c.write_last-written.result (last_lines scenario sections)
wrote c scenario sections threads sums =
    let answers = c.as_slice.ensures ∙ c.in_ok-answers.ensures sections (sym (c.answers.ensures ∙ sums.answers)) in
    subst (Held c.write_last-written.new.sink c.args.cursor.now.rest c.write_last-written.result)
    (last_text scenario sections c.args.past.now c.args.threads.now c.as_slice.result.now c.in_ok-taps.taps (status_number c.status.result)
    sums threads answers c.in_ok-taps.ensures c.status.ensures)
    (held c)

pub returns-clause-checks : goal.returns-clause-checks
returns-clause-checks c = λ scenario sections threads sums.
    let text = wrote (goal.at.returns-clause-checks c).After-write_last-written scenario sections threads sums in
    subst (λ before. Checks c.settle.result before (found_from scenario (at_last sections []) c.settle.new.self))
    (sym (last_due scenario sections c.args.cursor.now (last_lines_ended scenario sections)))
    (due_checked c.settle.result scenario (at_last sections []) (last_lines scenario sections) c.args.cursor.now c.settle.new.self
    (last_lines_ended scenario sections)
    (settled_ok c.settle.result _ _ _ _ _ text c.settle.ensures.ok) (settled_unfit c.settle.result _ _ _ _ text c.settle.ensures.unfit))

pub returns-clause-text : goal.returns-clause-text
returns-clause-text c = λ scenario sections threads sums.
    settled_ok c.settle.result _ _ _ _ _ (wrote (goal.at.returns-clause-text c).After-write_last-written scenario sections threads sums)
    c.settle.ensures.ok
