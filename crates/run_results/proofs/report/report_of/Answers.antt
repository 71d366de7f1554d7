use Rattle.std.proofs.Common.{rules}
use Rattle.run_results.proofs.ResultLemmas.{is_report}
use Rattle.run_results.proofs.report.report_of.Goals as goal

pub returns-clause-whole : goal.returns-clause-whole
returns-clause-whole c = λ h. is_report c.args.scenario.now c.args.run c.args.ends _ _ h (search rules) (search rules)
