use Rattle.std.proofs.Common.{None, Some, subst}
use Rattle.nooks.proofs.Audits.{verdict_reported}
use Rattle.nooks.proofs.auditing.give_verdict.Goals as goal
use Rattle.order_defs.specs.OutOfOrder.{Finds}

pub returns-in-Ok-None-clause-ends : goal.returns-in-Ok-None-clause-ends
returns-in-Ok-None-clause-ends g c =
    verdict_reported c.args.scenario.now c.args.report.now None _ c.finish.result c.requires
    (subst (Finds c.args.scenario.now c.args.report.now) c.in-Ok-None.field-0-is c.in-Ok-None.ensures.exact) c.finish.ensures.ends

pub returns-in-Ok-Some-clause-ends : goal.returns-in-Ok-Some-clause-ends
returns-in-Ok-Some-clause-ends g c =
    verdict_reported c.args.scenario.now c.args.report.now (Some c.in-Ok-Some.number) _ c.report_line.result c.requires
    (subst (Finds c.args.scenario.now c.args.report.now) c.in-Ok-Some.field-0-is c.in-Ok-Some.ensures.exact) c.report_line.ensures.ends
