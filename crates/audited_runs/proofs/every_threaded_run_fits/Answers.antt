use Rattle.audited_runs.proofs.Asked.{threaded_fits}
use Rattle.audited_runs.proofs.ThreadedText.{threaded_text}
use Rattle.audited_runs.proofs.every_threaded_run_fits.Goals as goal

pub returns : goal.returns
returns c = record { fits = threaded_fits; text = threaded_text }
