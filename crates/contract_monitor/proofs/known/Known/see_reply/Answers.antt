use Rattle.std.proofs.Common.{◌≡◌, IfOk, subst, sym, ◌∙◌}
use Rattle.contract_monitor.specs.Judging.{first_broken, reply_deeds}
use Rattle.contract_monitor.proofs.Changes.{if_ok}
use Rattle.contract_monitor.proofs.Judged.{reply_first}
use Rattle.contract_monitor.proofs.known.Known.see_reply.Goals as goal

pub returns-in-Some-clause-broken : goal.returns-in-Some-clause-broken
returns-in-Some-clause-broken c =
    subst (λ o. IfOk c.judge_reply.result (λ clause. clause ≡ first_broken c.args.call c.args.self.now.known (reply_deeds o)))
    (sym c.in-Some.is)
    (if_ok c.judge_reply.result (λ clause h. h ∙ sym (reply_first c.args.call c.args.self.now.known c.in-Some.answer))
    c.judge_reply.ensures)
