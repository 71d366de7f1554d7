use Rattle.std.proofs.Common.{◌≡◌, ◌++◌, drop, map}
use Rattle.campaign_defs.specs.Members.{alone}
use Rattle.fault_campaign.proofs.every.each_alone.Given as goal

abbrev pub invariant-loop-fault : goal.invariant-loop-fault
invariant-loop-fault l = l.members ++ map alone (drop l.fault-index l.faults) ≡ map alone l.faults
