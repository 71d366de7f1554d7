use Rattle.fault_campaign.proofs.writing.+write_burst.Given as goal

abbrev pub decreases-write_burst : goal.decreases-write_burst
decreases-write_burst g l = l.turns.count
