use Rattle.explored_run.proofs.Loops.{given_step}
use Rattle.explored_run.proofs.given.given_of.Goals as goal

pub loop-event-preserved : goal.loop-event-preserved
loop-event-preserved c =
    given_step c.args.class c.args.events.now c.loop-event.event-index c.event-item.result c.loop-event.given
    c.add_given.new.given c.loop-event-test.true c.event-item.is c.loop-event.invariant c.in_ok-add_given.ensures
