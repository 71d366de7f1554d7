use Rattle.headline_laws.proofs.Restarts.{run_clean, run_reset}
use Rattle.headline_laws.proofs.restart.every_restart_is_clean.Goals as goal

pub returns : goal.returns
returns c = record { load = run_clean; reset = run_reset }
