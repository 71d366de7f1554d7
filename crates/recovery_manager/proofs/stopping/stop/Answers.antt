use Rattle.std.proofs.Common.{◌∙◌}
use Rattle.recovery_manager.proofs.Stopped.{stopped_log}
use Rattle.recovery_manager.proofs.stopping.stop.Goals as goal

pub returns-then-failures-limit-clause-held : goal.returns-then-failures-limit-clause-held
returns-then-failures-limit-clause-held g c = λ low.
    stopped_log c.args.log.now c.stopped.new.self _ (g.Q.RxFront.frames c.args.queue.now) c.stopped.ensures.rising
    (c.as_slice.ensures ∙ c.shadow_answers-answers.ensures.answers) c.stopped.ensures.log
