use Rattle.part_server.proofs.Steps.{invoke_gives, invoked_last, refused_invoke}
use Rattle.part_server.proofs.held.LockedPart.invoke.Goals as goal

pub invoked-requires-clause-last : goal.invoked-requires-clause-last
invoked-requires-clause-last c = invoked_last c.args.self.now c.step.new.self c.args.thread c.args.op c.in-Ok.done c.in-Ok.ensures.stepped

pub returns-in-Ok-clause-gives : goal.returns-in-Ok-clause-gives
returns-in-Ok-clause-gives c =
    invoke_gives c.args.self.now c.step.new.self c.args.thread c.args.op c.in-Ok.done c.invoked.result c.step.ensures.was c.in-Ok.ensures.stepped c.invoked.ensures

pub refusal-requires-clause-refused : goal.refusal-requires-clause-refused
refusal-requires-clause-refused c =
    refused_invoke c.args.self.now c.step.new.self c.args.thread c.args.op c.in-Err-NotEnabled.field-0 c.in-Err-NotEnabled.field-0-is c.in-Err-NotEnabled.ensures.stepped
