use Rattle.explored_run.proofs.Loops.{outcomes_more, seen_run}
use Rattle.explored_run.proofs.outcomes.outcomes_of.Goals as goal

pub add_outcome-requires : goal.add_outcome-requires
add_outcome-requires c =
    seen_run c.args.simulation.now.parts c.args.monitors.now c.loop-number.number c.part.result.now
    c.index-monitors-number.result c.requires c.part.ensures c.index-monitors-number.is

pub loop-number-preserved : goal.loop-number-preserved
loop-number-preserved c =
    outcomes_more c.args.simulation.now.parts c.loop-number.number c.part.result.now c.loop-number.made c.add_outcome.new.made
    c.part.ensures c.loop-number.invariant c.in_ok-add_outcome.ensures
