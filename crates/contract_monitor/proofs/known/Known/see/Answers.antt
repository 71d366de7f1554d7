use Rattle.std.proofs.Common.{ap, ◌∙◌}
use Rattle.nook_data.specs.Answers.{one_answer}
use Rattle.contract_monitor.specs.Keeping.{kept_burst}
use Rattle.contract_monitor.proofs.Bursts.{burst_after, none_answered}
use Rattle.contract_monitor.proofs.known.Known.see.Goals as goal

pub returns-in_ok-answer_one-in-Burst-clause-kept : goal.returns-in_ok-answer_one-in-Burst-clause-kept
returns-in_ok-answer_one-in-Burst-clause-kept c =
    rw c.in-Burst.is
    (burst_after c.in-Burst.call c.in-Burst.acts c.in-Burst.end c.in-Burst.answer c.in-Burst.failure
    (one_answer c.in-Burst.call c.in-Burst.answer) c.args.self.now _ _
    (c.in_ok-broken-in-Burst.ensures.kept
    ∙ ap (λ done. kept_burst c.in-Burst.call done c.in-Burst.end c.in-Burst.answer c.in-Burst.failure c.args.self.now) c.as_slice.ensures)
    c.in_ok-answer_one-in-Burst.ensures)

pub returns-in_ok-see_arrival-in-Arrive-clause-kept : goal.returns-in_ok-see_arrival-in-Arrive-clause-kept
returns-in_ok-see_arrival-in-Arrive-clause-kept c =
    rw c.in-Arrive.is (c.in_ok-see_arrival-in-Arrive.ensures ∙ none_answered _)
