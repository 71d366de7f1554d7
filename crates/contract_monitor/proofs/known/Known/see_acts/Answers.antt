use Rattle.contract_monitor.proofs.Bursts.{broken_next, kept_more}
use Rattle.contract_monitor.proofs.known.Known.see_acts.Goals as goal

pub loop-act-preserved : goal.loop-act-preserved
loop-act-preserved c = record {
  kept = kept_more c.args.call c.args.self.now c.loop-act.self c.see_next.new.self c.args.acts.now c.loop-act.act-index c.act-item.result
      c.loop-act-test.true c.act-item.is c.loop-act.invariant.kept c.in_ok-clause.ensures.kept;
  broken = broken_next c.args.call c.args.self.now c.loop-act.self c.args.acts.now c.loop-act.act-index c.act-item.result c.loop-act.broken
      c.in_ok-clause.clause c.smaller-broken.result c.loop-act-test.true c.act-item.is c.loop-act.invariant.kept
      c.loop-act.invariant.broken c.in_ok-clause.ensures.broken c.smaller-broken.ensures;
}
