use Rattle.std.proofs.Common.{length}
use Rattle.fault_campaign.proofs.writing.+write_bursts.Given as goal

abbrev pub decreases-write_bursts : goal.decreases-write_bursts
decreases-write_bursts g l = length l.points.now
