use Rattle.headline_laws.proofs.BurstBounds.{burst_bounded}
use Rattle.worked_rows.proofs.machine.bursts_are_bounded.Goals as goal

-- src/machine.rt:11:1
pub returns : goal.returns
returns c = burst_bounded
