use Rattle.std.proofs.Common.{Some, ◌+◌, arith}
use Rattle.nook_data.specs.declared.calls.Answer.TheVariants as answer
use Rattle.recovery_manager.proofs.OpenCalls.{gone_more, long_more}
use Rattle.recovery_manager.proofs.stopping.gone_answers.Goals as goal

pub loop-i-preserved : goal.loop-i-preserved
loop-i-preserved c = (
  gone_more c.args.failures c.args.log.now.pending c.loop-i.i (c.loop-i.i + 1) c.open_call.result.now c.loop-i.answers.items _
      c.open_call.ensures.call (omega arith) c.loop-i.invariant.0 c.add_answer.ensures.items,
  long_more c.loop-i.answers.items _ c.open_call.result.now.call c.loop-i.i (Some (answer.Gone c.args.failures)) c.add_answer.ensures.items
      c.loop-i.invariant.1,
  omega (arith, c.loop-i.invariant.2, c.add_answer.ensures.room),
)
