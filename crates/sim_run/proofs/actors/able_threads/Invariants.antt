use Rattle.sim_run.proofs.AbleThreads.{HasFlags}
use Rattle.sim_run.proofs.actors.able_threads.Given as goal

abbrev pub invariant-loop-index : goal.invariant-loop-index
invariant-loop-index l = HasFlags l.index l.seats l.threads l.able.items
