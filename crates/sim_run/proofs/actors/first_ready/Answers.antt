use Rattle.std.proofs.Common.{◌∙◌, sym}
use Rattle.sim_run.proofs.NextActor.{found_thread, none_of_threads}
use Rattle.sim_run.proofs.actors.first_ready.Goals as goal

pub returns-in-Some : goal.returns-in-Some
returns-in-Some c = found_thread c.args.least c.in-Some.actor _ _ (sym c.in-Some.is ∙ c.first_thread.ensures)

pub returns-in-None : goal.returns-in-None
returns-in-None c =
    none_of_threads c.args.least _ _ c.first_of_seats.result (sym c.in-None.is ∙ c.first_thread.ensures) c.first_of_seats.ensures
