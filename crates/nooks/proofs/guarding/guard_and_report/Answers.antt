use Rattle.std.proofs.Common.{inl}
use Rattle.nooks.proofs.Written.{kept_reported}
use Rattle.nooks.proofs.guarding.guard_and_report.Goals as goal

pub returns-in-Ok-clause-ends : goal.returns-in-Ok-clause-ends
returns-in-Ok-clause-ends g c hearing begun = c.give_guard_report.ensures.ends c.args.scenario.now hearing (c.in-Ok.ensures hearing begun)

pub returns-in-Err-clause-ends : goal.returns-in-Err-clause-ends
returns-in-Err-clause-ends g c hearing begun = inl (kept_reported _)
