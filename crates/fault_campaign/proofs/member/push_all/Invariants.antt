use Rattle.std.proofs.Common.{◌≡◌, ◌++◌, drop}
use Rattle.fault_campaign.proofs.member.push_all.Given as goal

abbrev pub invariant-loop-fault : goal.invariant-loop-fault
invariant-loop-fault l = l.list ++ drop l.fault-index l.faults ≡ l.initial.list ++ l.faults
