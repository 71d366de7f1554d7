use Rattle.std.proofs.Common.{ap, subst, ◌∙◌}
use Rattle.run_laws.specs.Audit.{section_end}
use Rattle.report_text.specs.Writing.{Wrote}
use Rattle.journal_audit.specs.Comparisons.{Comparison, change_in, untouched}
use Rattle.journal_audit.proofs.Taken.{Held, text_kept}
use Rattle.journal_audit.proofs.Endings.{end_written, settled_ok, settled_unfit}
use Rattle.journal_audit.proofs.ending.compare_ending.Goals as goal
use Rattle.journal_audit.proofs.ending.compare_ending.Goals.{After-write_final-written}

held : (c : After-write_final-written)
    → Held c.write_final-written.new.sink c.args.cursor.now.rest c.write_final-written.result (section_end c.args.section.now)
held c = record {
  is =
      subst
      (λ (x : Comparison). Wrote (change_in x c.write_final-written.new.sink) c.write_final-written.result (section_end c.args.section.now))
      (c.new-compared.ensures ∙ ap untouched c.rest.ensures)
      (end_written c.args.section.now c.part.result.now c.spec.result.now c.events.result.now c.args.judged.now c.in_ok-end.end
      (λ text. Wrote (change_in c.new-compared.result c.write_final-written.new.sink) c.write_final-written.result text)
      c.part.ensures.run c.part.ensures.spec c.spec.ensures c.events.ensures.events c.requires c.in_ok-end.ensures
      c.write_final-written.ensures.text);
}

pub settle-requires : goal.settle-requires
settle-requires c = text_kept _ _ _ _ (held (goal.at.settle-requires c).After-write_final-written)

pub returns-clause-ok : goal.returns-clause-ok
returns-clause-ok c =
    settled_ok c.settle.result _ _ _ _ _ (held (goal.at.returns-clause-ok c).After-write_final-written) c.settle.ensures.ok

pub returns-clause-unfit : goal.returns-clause-unfit
returns-clause-unfit c =
    settled_unfit c.settle.result _ _ _ _ (held (goal.at.returns-clause-unfit c).After-write_final-written) c.settle.ensures.unfit
