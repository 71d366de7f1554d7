use Rattle.std.proofs.Common.{◌+◌, ◌∙◌, arith}
use Rattle.nook_data.specs.declared.steps.Stage.TheVariants as stage
use Rattle.shadow_proxy.specs.Table.{answer_of}
use Rattle.recovery_manager.proofs.OpenCalls.{answered_by_front, stop_more, queue_more, long_more}
use Rattle.recovery_manager.proofs.stopping.shadow_answers.Goals as goal

pub loop-i-preserved : goal.loop-i-preserved
loop-i-preserved g c =
    let answer = answered_by_front c.open_call-entry.result.now.op c.open_call-entry.result.now.thread c.args.log.now.config c.args.log.now.holder
    stage.Stop (g.Q.RxFront.frames c.loop-i.queue) c.front_for-front.result (answer_of c.proxy-decision.result)
    c.front_for-front.ensures.front c.proxy-decision.ensures in (
      stop_more c.args.log.now.pending c.loop-i.i (c.loop-i.i + 1) c.open_call-entry.result.now c.args.log.now.config c.args.log.now.holder
          (g.Q.RxFront.frames c.loop-i.queue) (g.Q.RxFront.frames c.front_for-front.new.queue) c.loop-i.answers.items _ _
          (answer_of c.proxy-decision.result) c.open_call-entry.ensures.call (omega arith) answer c.front_for-front.ensures.left
          c.add_answer.ensures.items c.loop-i.invariant.0,
      queue_more c.args.log.now.pending c.loop-i.i (c.loop-i.i + 1) c.open_call-entry.result.now (g.Q.RxFront.frames c.loop-i.queue)
          (g.Q.RxFront.frames c.front_for-front.new.queue) c.open_call-entry.ensures.call (omega arith) c.front_for-front.ensures.left
          ∙ c.loop-i.invariant.1,
      long_more c.loop-i.answers.items _ c.open_call-entry.result.now.call c.loop-i.i (answer_of c.proxy-decision.result) c.add_answer.ensures.items
          c.loop-i.invariant.2,
      omega (arith, c.loop-i.invariant.3, c.add_answer.ensures.room),
    )
