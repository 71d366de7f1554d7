use Rattle.std.proofs.Common.{inl, subst, sym}
use Rattle.nooks.proofs.Written.{kept_reported}
use Rattle.nooks.proofs.guarding.give_guarded.Goals as goal
use Rattle.nooks.specs.Answers.{IsGuardedText}

pub returns-in-Ok-clause-ends : goal.returns-in-Ok-clause-ends
returns-in-Ok-clause-ends g c =
    c.give_text.ensures.ends c.args.scenario.now (subst (IsGuardedText c.args.scenario.now) (sym c.as_slice.ensures) c.in-Ok.ensures)

pub returns-in-Err-clause-ends : goal.returns-in-Err-clause-ends
returns-in-Err-clause-ends g c = inl (kept_reported _)
