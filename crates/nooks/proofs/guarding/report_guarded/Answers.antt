use Rattle.std.proofs.Common.{inl}
use Rattle.nooks.proofs.Written.{kept_reported}
use Rattle.nooks.proofs.guarding.report_guarded.Goals as goal

pub returns-in-Ok-clause-ends : goal.returns-in-Ok-clause-ends
returns-in-Ok-clause-ends g c = c.guard_and_report.ensures.ends _ c.in-Ok.ensures

pub returns-in-Err-clause-ends : goal.returns-in-Err-clause-ends
returns-in-Err-clause-ends g c = inl (kept_reported _)
