use Rattle.std.proofs.Common.{sym, ◌∙◌}
use Rattle.part_server.proofs.Steps.{too_many_calls}
use Rattle.part_server.proofs.held.LockedPart.refusal.Goals as goal

pub returns-in-None : goal.returns-in-None
returns-in-None c =
    rw (← c.self.view_is) (too_many_calls c.self.inside.part.state.spec c.self.inside.part.journal c.self.inside.part.state c.self.invariant.valid
    c.self.invariant.run c.self.invariant.state c.args.thread c.requires.thread (rw c.self.view_is c.requires.refused) (sym c.open_of.ensures.number ∙ c.in-None.is))
