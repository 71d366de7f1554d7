use Rattle.std.proofs.Common.{length}
use Rattle.fault_campaign.proofs.writing.+write_alone.Given as goal

abbrev pub decreases-write_alone : goal.decreases-write_alone
decreases-write_alone g l = length l.faults.now
