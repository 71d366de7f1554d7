use Rattle.sim_run.proofs.Ending.{runs_scheduled}
use Rattle.sim_run.proofs.laws.every_journal_is_a_run.Goals as goal

pub returns : goal.returns
returns c = runs_scheduled
