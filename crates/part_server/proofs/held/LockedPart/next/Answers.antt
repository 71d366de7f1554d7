use Rattle.std.proofs.Common.{sym, ◌∙◌}
use Rattle.part_server.proofs.Steps.{any_own, for_enabled, for_own}
use Rattle.part_server.proofs.held.LockedPart.next.Goals as goal

pub returns-in-Some-clause-own : goal.returns-in-Some-clause-own
returns-in-Some-clause-own c = for_own c.self.inside.part.state c.args.thread c.in-Some.step (sym c.next_for.ensures ∙ c.in-Some.is)

pub returns-in-Some-clause-enabled : goal.returns-in-Some-clause-enabled
returns-in-Some-clause-enabled c =
    rw (← c.self.view_is) (for_enabled c.self.inside.part.state c.args.thread c.in-Some.step (sym c.next_for.ensures ∙ c.in-Some.is))

pub returns-in-Some-next_any-clause-own : goal.returns-in-Some-next_any-clause-own
returns-in-Some-next_any-clause-own c =
    any_own c.self.inside.part.state c.in-Some-next_any.step (sym c.next_any.ensures.next ∙ c.in-Some-next_any.is)
