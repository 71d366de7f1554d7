use Rattle.std.proofs.Common.{◌∙◌}
use Rattle.nooks.proofs.Audits.{said_same}
use Rattle.nooks.proofs.auditing.report_line.Goals as goal

pub returns-in-Ok-clause-ends : goal.returns-in-Ok-clause-ends
returns-in-Ok-clause-ends g c = said_same _ _ _ c.finish.result _ (c.as_bytes.ensures ∙ c.in-Ok.ensures) c.finish.ensures.ends
