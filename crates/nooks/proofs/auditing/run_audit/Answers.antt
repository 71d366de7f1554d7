use Rattle.nooks.proofs.Audits.{nothing_handed}
use Rattle.nooks.proofs.auditing.run_audit.Goals as goal

pub returns-in-Some-clause-ends : goal.returns-in-Some-clause-ends
returns-in-Some-clause-ends g c hearing = c.audit_handed.ensures.ends c.args.bytes.now hearing c.in-Some.ensures.found

pub returns-in-None-clause-ends : goal.returns-in-None-clause-ends
returns-in-None-clause-ends g c hearing = nothing_handed c.args.bytes.now hearing _ c.finish.result c.in-None.ensures.none c.finish.ensures.ends
