use Rattle.std.proofs.Common.{◌≡◌, filter_map, take}
use Rattle.fault_points.specs.Bursts.{burst_points}
use Rattle.fault_points.proofs.points.points_of.Given as goal

abbrev pub invariant-loop-event : goal.invariant-loop-event
invariant-loop-event l = l.points ≡ filter_map (burst_points l.spec.faults l.traps) (take l.event-index l.journal)
