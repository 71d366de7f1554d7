use Rattle.std.proofs.Common.{inl}
use Rattle.nooks.proofs.Written.{kept_reported}
use Rattle.nooks.proofs.exploring.explore_and_write.Goals as goal

pub returns-in-Ok-clause-ends : goal.returns-in-Ok-clause-ends
returns-in-Ok-clause-ends g c = c.give_rows.ensures.ends c.args.scenario.now c.in-Ok.ensures

pub returns-in-Err-clause-ends : goal.returns-in-Err-clause-ends
returns-in-Err-clause-ends g c = inl (kept_reported _)
