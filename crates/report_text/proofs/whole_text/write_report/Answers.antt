use Rattle.report_text.proofs.WholeLemmas.{rows_are_text}
use Rattle.report_text.proofs.whole_text.write_report.Goals as goal

pub returns-clause-text : goal.returns-clause-text
returns-clause-text g c = λ h. rw (← rows_are_text c.args.scenario.now c.args.report.now h) c.write_rows.ensures
