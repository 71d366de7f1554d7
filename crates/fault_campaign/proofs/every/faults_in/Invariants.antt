use Rattle.std.proofs.Common.{◌≡◌, ◌+◌, ◌-◌, ◌++◌}
use Rattle.guard_defs.specs.Every.{faults_in}
use Rattle.fault_campaign.proofs.every.faults_in.Given as goal

abbrev pub invariant-loop-turn : goal.invariant-loop-turn
invariant-loop-turn l =
    l.faults ++ faults_in l.kinds l.burst (l.after + l.turn) (l.turns - l.turn) ≡ faults_in l.kinds l.burst l.after l.turns
