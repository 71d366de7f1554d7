use Rattle.std.proofs.Common.{subst, sym}
use Rattle.sim_run.proofs.AbleThreads.{ready_named}
use Rattle.sim_run.proofs.simulating.branching.ready_actors.Goals as goal
use Rattle.sim_run.specs.Able.{AreAble}

pub returns : goal.returns
returns c =
    ready_named c.args.seats.now c.args.threads.now c.deref.result.now c.list_ready.new.ready.items
    (subst (AreAble c.args.seats.now c.args.threads.now) (sym c.deref.ensures.value) c.in_ok-able.ensures)
    c.in_ok-list_ready.ensures
