use Rattle.std.proofs.Common.{◌≡◌, fold, take}
use Rattle.fault_points.specs.Bursts.{up_to_own}
use Rattle.fault_points.proofs.points.turns_made.Given as goal

abbrev pub invariant-loop-fault : goal.invariant-loop-fault
invariant-loop-fault l = l.turns ≡ fold (up_to_own l.burst) l.count (take l.fault-index l.faults)
