use Rattle.std.proofs.Common.{ap, ◌∙◌}
use Rattle.part_core.specs.Claimed.{without_answered}
use Rattle.part_core.proofs.Claimed.{claimed_after_stop}
use Rattle.part_core.proofs.open_calls.OpenCalls.stop.Goals as goal

pub invariant_of-self-2 : goal.invariant_of-self-2
invariant_of-self-2 g c = claimed_after_stop c.self.inside.claims c.remove_all.new.claims c.self.inside.log c.stop.new.log c.in_ok-answers.answers
    (g.Q.RxFront.frames c.args.queue.now) c.args.failures c.args.limit c.self.invariant
    c.in_ok-answers.ensures.held c.in_ok-answers.ensures.answers c.in_ok-answers.ensures.closed c.in_ok-answers.ensures.gone
    (c.remove_all.ensures ∙ ap (λ z. without_answered z c.self.inside.claims) c.as_slice.ensures)
