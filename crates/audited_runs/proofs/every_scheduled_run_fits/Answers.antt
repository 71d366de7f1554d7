use Rattle.audited_runs.proofs.Ended.{scheduled_fits}
use Rattle.audited_runs.proofs.Texts.{scheduled_text}
use Rattle.audited_runs.proofs.every_scheduled_run_fits.Goals as goal

pub returns : goal.returns
returns c = record { fits = scheduled_fits; text = scheduled_text }
