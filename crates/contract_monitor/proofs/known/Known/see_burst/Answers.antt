use Rattle.std.proofs.Common.{◌∙◌}
use Rattle.contract_monitor.proofs.Bursts.{burst_broken}
use Rattle.contract_monitor.proofs.known.Known.see_burst.Goals as goal

pub returns-clause-broken : goal.returns-clause-broken
returns-clause-broken c =
    c.smaller.ensures
    ∙ burst_broken c.args.call c.args.acts.now c.args.end.now c.args.answer.now c.args.failure.now c.args.self.now _ _ _
    c.in_ok-at_acts.ensures.kept c.in_ok-at_acts.ensures.broken c.in_ok-at_crossing.ensures.broken
