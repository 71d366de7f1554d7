use Rattle.part_server.proofs.Steps.{arrive_full, arrive_gives, not_arrival}
use Rattle.part_server.proofs.held.LockedPart.arrive.Goals as goal

pub unreachable-requires : goal.unreachable-requires
unreachable-requires c =
    not_arrival c.args.self.now c.step.new.self c.args.frame c.in-Ok.done c.event.result.now c.in-Ok.ensures.stepped c.event.ensures.there c.in_default.not-Arrive

pub returns-in-Arrive-clause-gives : goal.returns-in-Arrive-clause-gives
returns-in-Arrive-clause-gives c =
    arrive_gives c.args.self.now c.step.new.self c.args.frame c.in-Arrive.frame c.in-Arrive.kept c.in-Ok.done c.event.result.now c.in-Ok.ensures.stepped
    c.event.ensures.there c.in-Arrive.is

pub returns-in-Err-NotEnabled-clause-gives : goal.returns-in-Err-NotEnabled-clause-gives
returns-in-Err-NotEnabled-clause-gives c =
    arrive_full c.args.self.now c.step.new.self c.args.frame c.in-Err-NotEnabled.field-0 c.step.ensures.kept c.requires.net c.requires.some c.requires.fits
    c.in-Err-NotEnabled.field-0-is c.in-Err-NotEnabled.ensures.stepped
