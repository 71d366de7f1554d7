use Rattle.std.proofs.Common.{◌≡◌, ◌++◌, drop}
use Rattle.sim_run.specs.Able.{able_actors}
use Rattle.sim_run.proofs.actors.add_threads.Given as goal

abbrev pub invariant-loop-index : goal.invariant-loop-index
invariant-loop-index l =
    l.ready.items ++ able_actors l.index (drop l.index l.able) ≡ l.initial.ready.items ++ able_actors 0 l.able
