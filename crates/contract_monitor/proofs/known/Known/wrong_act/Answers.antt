use Rattle.std.proofs.Common.{Some, ap, ◌∙◌, arith}
use Rattle.contract_monitor.specs.Wrong.{wrong_at}
use Rattle.contract_monitor.proofs.Bursts.{kept_more}
use Rattle.contract_monitor.proofs.FirstWrong.{quiet_more, wrong_found}
use Rattle.contract_monitor.proofs.known.Known.wrong_act.Goals as goal

pub loop-act-preserved : goal.loop-act-preserved
loop-act-preserved c = record {
  counted = omega arith;
  kept = kept_more c.args.call c.args.self.now c.loop-act.self c.see_next.new.self c.args.acts.now c.loop-act.act-index c.act-item.result
      c.loop-act-test.true c.act-item.is c.loop-act.invariant.kept c.in_ok-clause.ensures.kept;
  quiet = quiet_more c.args.call c.args.self.now c.loop-act.self c.args.acts.now c.loop-act.act-index c.act-item.result c.in_ok-clause.field-0
      c.loop-act-test.true c.act-item.is c.loop-act.invariant.kept c.loop-act.invariant.quiet c.in_ok-clause.ensures.broken c.in_default.is;
}

pub returns-in-Some-clause-wrong : goal.returns-in-Some-clause-wrong
returns-in-Some-clause-wrong c =
    ap (λ n. wrong_at n (Some c.in-Some.clause)) c.loop-act.invariant.counted
    ∙ wrong_found c.args.call c.args.self.now c.loop-act.self c.args.acts.now c.loop-act.act-index c.act-item.result c.in_ok-clause.field-0
    c.in-Some.clause c.loop-act-test.true c.act-item.is c.loop-act.invariant.kept c.loop-act.invariant.quiet c.in_ok-clause.ensures.broken
    c.in-Some.is
