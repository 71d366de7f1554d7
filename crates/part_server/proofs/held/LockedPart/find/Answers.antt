use Rattle.std.proofs.Common.{sym, ◌∙◌}
use Rattle.part_server.proofs.Steps.{not_invoked}
use Rattle.part_server.proofs.held.LockedPart.find.Goals as goal

pub unreachable-requires : goal.unreachable-requires
unreachable-requires c =
    not_invoked c.self.inside.part c.args.thread c.in-Some.call c.as_slice-events.result.now c.self.invariant
    (c.as_slice-events.ensures ∙ c.journal.ensures.journal) (sym c.open_of.ensures.number ∙ c.in-Some.is) c.in_default-invocation.ensures
