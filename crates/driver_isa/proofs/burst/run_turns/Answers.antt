use Rattle.std.proofs.Common.{◌∙◌, sym, arith}
use Rattle.driver_isa.proofs.Bursts.{hangs_here, run_ended, run_left, stops_here, strikes_here}
use Rattle.driver_isa.proofs.burst.run_turns.Goals as goal

pub returns-in-Some-clause-burst : goal.returns-in-Some-clause-burst
returns-in-Some-clause-burst g c =
    rw c.stopped.ensures.counter
    (stops_here c.loop-count.count _ _ _ _ _ _ _ _ _ c.loop-count-test.true c.loop-count.invariant.0
    c.strike_due-struck.ensures.struck c.in-Some.is c.stopped.ensures.count c.stopped.ensures.cause)

pub returns-in-Some-end-clause-burst : goal.returns-in-Some-end-clause-burst
returns-in-Some-end-clause-burst g c =
    sym
    (strikes_here c.loop-count.count _ _ _ _ _ _ _ c.loop-count-test.true c.loop-count.invariant.0
    c.strike_due-struck.ensures.struck c.in_default.is (c.strike_due-struck.ensures.clear c.in_default.is)
    c.strike_due-struck.ensures.entries)
    ∙ run_ended _ _ _ _ _ _ _ _ (c.run_until-run.ensures.went _ c.next_stop-stop.ensures.quiet) c.in-Some-end.is

pub loop-count-preserved : goal.loop-count-preserved
loop-count-preserved g c = (
  run_left _ _ _ _ _ _ _ (c.run_until-run.ensures.went _ c.next_stop-stop.ensures.quiet) c.in_default-end.is
      ∙ strikes_here c.loop-count.count _ _ _ _ _ _ _ c.loop-count-test.true c.loop-count.invariant.0
      c.strike_due-struck.ensures.struck c.in_default.is (c.strike_due-struck.ensures.clear c.in_default.is)
      c.strike_due-struck.ensures.entries,
  omega arith,
  c.run_until-run.ensures.room c.in_default-end.is,
  c.run_until-run.ensures.entries ∙ c.strike_due-struck.ensures.entries ∙ c.loop-count.invariant.3,
  c.run_until-run.ensures.held ∙ c.strike_due-struck.ensures.held ∙ c.loop-count.invariant.4,
)

pub returns-clause-burst : goal.returns-clause-burst
returns-clause-burst g c =
    rw c.stopped-2.ensures.counter
    (hangs_here c.loop-count.count _ _ _ _ _ _ _ c.loop-count-test.false c.loop-count.invariant.0
    c.stopped-2.ensures.count c.stopped-2.ensures.cause)
