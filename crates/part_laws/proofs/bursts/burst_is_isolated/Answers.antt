use Rattle.part_laws.proofs.BurstIsolation.{burst_isolated}
use Rattle.part_laws.proofs.bursts.burst_is_isolated.Goals as goal

pub returns : goal.returns
returns c = burst_isolated
