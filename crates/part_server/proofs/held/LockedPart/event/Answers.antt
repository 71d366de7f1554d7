use Rattle.part_server.proofs.Short.{short_at}
use Rattle.part_server.proofs.Steps.{at_position}
use Rattle.part_server.proofs.held.LockedPart.event.Goals as goal

pub returns-clause-short : goal.returns-clause-short
returns-clause-short c =
    short_at c.self.inside.part.state.spec c.journal.result.now.list c.args.number c.get.result.now c.self.invariant.valid c.journal.ensures.run
    (at_position c.args.number c.journal.result.now.list c.get.result.now c.requires.0 c.get.ensures)
