use Rattle.contract_monitor.proofs.Changes.{if_ok}
use Rattle.contract_monitor.proofs.FirstWrong.{burst_reported}
use Rattle.contract_monitor.proofs.known.Known.first_wrong.Goals as goal

pub returns-in_ok-known-in-Burst : goal.returns-in_ok-known-in-Burst
returns-in_ok-known-in-Burst c =
    rw c.in-Burst.is
    (if_ok c.wrong_in_burst.result
    (λ wrong h. burst_reported c.in-Burst.context c.in-Burst.call c.in-Burst.burst c.in-Burst.count c.in-Burst.end _ c.in-Burst.acts c.in-Burst.answer
    c.in-Burst.failure c.args.self.now _ wrong c.in_ok-known-in-Burst.ensures c.as_slice.ensures h)
    c.wrong_in_burst.ensures)
