use Rattle.part_server.proofs.Steps.{go_on_gives, is_enabled, open_some}
use Rattle.part_server.proofs.held.LockedPart.go_on.Goals as goal

pub next-requires : goal.next-requires
next-requires c = open_some c.args.self.now.state c.args.waiting.thread c.args.waiting.call c.requires.0

pub unreachable-requires : goal.unreachable-requires
unreachable-requires c =
    is_enabled c.args.self.now c.step.new.self c.next.result c.in-Err-NotEnabled.field-0 c.in-Err-NotEnabled.field-0-is c.in-Err-NotEnabled.ensures.stepped
    c.next.ensures.enabled

pub returns-in-Ok-clause-gives : goal.returns-in-Ok-clause-gives
returns-in-Ok-clause-gives c =
    go_on_gives c.args.self.now c.step.new.self c.args.waiting c.next.result c.in-Ok.done c.reached.result c.step.ensures.was c.requires c.next.ensures.own
    c.in-Ok.ensures.stepped c.reached.ensures
