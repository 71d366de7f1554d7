use Rattle.sim_run.proofs.Publishing.{events_are_published, journals_are_heard}
use Rattle.sim_run.proofs.laws.every_event_is_published.Goals as goal

pub returns : goal.returns
returns c = record { parts = events_are_published; totals = journals_are_heard }
