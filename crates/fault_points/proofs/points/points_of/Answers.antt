use Rattle.std.proofs.Common.{arith}
use Rattle.std.proofs.lemmas.Grind.{common_steps}
use Rattle.std.proofs.lemmas.List.Elements.{filter_map-append}
use Rattle.fault_points.proofs.Journals.{free_points, guarded_points}
use Rattle.fault_points.proofs.points.points_of.Goals as goal

pub loop-event-preserved : goal.loop-event-preserved
loop-event-preserved c = grind (arith, common_steps, filter_map-append)

pub returns-clause-free : goal.returns-clause-free
returns-clause-free c =
    free_points c.args.spec.now c.args.traps.now c.args.journal.now c.loop-event.event-index c.loop-event.points
    (c.loop-event.invariant) c.loop-event-test.false

pub returns-clause-guarded : goal.returns-clause-guarded
returns-clause-guarded c =
    guarded_points c.args.spec.now c.args.traps.now c.args.journal.now c.loop-event.event-index c.loop-event.points
    (c.loop-event.invariant) c.loop-event-test.false
