use Rattle.report_text.proofs.WholeLemmas.{mirror_rows_are_text}
use Rattle.report_text.proofs.whole_text.write_mirror_report.Goals as goal

pub returns-clause-text : goal.returns-clause-text
returns-clause-text g c = λ h.
    rw (← mirror_rows_are_text c.args.scenario.now c.args.report.now c.args.answers.now c.args.status h, ← c.as_slice.ensures)
    c.write_mirror_rows.ensures
