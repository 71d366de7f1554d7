use Rattle.std.proofs.Common.{take}
use Rattle.sim_run.specs.Watched.{HaveSeen}
use Rattle.sim_run.proofs.simulating.make_monitors.Given as goal

abbrev pub invariant-loop-seat : goal.invariant-loop-seat
invariant-loop-seat l = HaveSeen (take l.seat-index l.seats) l.made.items
