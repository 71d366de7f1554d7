use Rattle.std.proofs.Common.{◌≡◌, drop}
use Rattle.sim_run.specs.Able.{able_actors}
use Rattle.sim_run.specs.Actors.{first_from}
use Rattle.sim_run.proofs.actors.first_thread.Given as goal

abbrev pub invariant-loop-index : goal.invariant-loop-index
invariant-loop-index l = first_from l.least (able_actors l.index (drop l.index l.able)) ≡ first_from l.least (able_actors 0 l.able)
