use Rattle.std.proofs.Common.{◌∙◌, sym}
use Rattle.contract_monitor.proofs.FirstWrong.{burst_act_wrong, burst_wrong}
use Rattle.contract_monitor.proofs.known.Known.wrong_in_burst.Goals as goal

pub returns-in-Some : goal.returns-in-Some
returns-in-Some c =
    burst_act_wrong c.args.call c.args.acts.now c.args.end.now c.args.answer.now c.args.failure.now c.args.self.now.known c.in-Some.wrong
    (sym c.in-Some.is ∙ c.in_ok-wrong.ensures.wrong)

pub returns-in_ok-clause-in-None : goal.returns-in_ok-clause-in-None
returns-in_ok-clause-in-None c =
    c.wrong_at.ensures
    ∙ burst_wrong c.args.call c.args.acts.now c.args.end.now c.args.answer.now c.args.failure.now c.args.self.now _
    c.in_ok-clause-in-None.clause (sym c.in_ok-wrong.ensures.wrong ∙ c.in-None.is) (c.in_ok-wrong.ensures.kept c.in-None.is)
    c.in_ok-clause-in-None.ensures.broken
