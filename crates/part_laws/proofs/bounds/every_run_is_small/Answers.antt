use Rattle.part_laws.proofs.RunSmall.{run_small, run_few_bursts}
use Rattle.part_laws.proofs.bounds.every_run_is_small.Goals as goal

pub returns : goal.returns
returns c = record { events = run_small; bursts = run_few_bursts }
