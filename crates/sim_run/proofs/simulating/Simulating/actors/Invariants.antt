use Rattle.std.proofs.Common.{◌≡◌, take}
use Rattle.sim_run.proofs.simulating.Simulating.actors.Given as goal

abbrev pub invariant-loop-actor : goal.invariant-loop-actor
invariant-loop-actor l = l.actors ≡ take l.actor-index l.actor-items
