use Rattle.guarded_run.proofs.Rounds.{IsGuardedSoFar}
use Rattle.guarded_run.proofs.guarded.guard_scenario.Given as goal

abbrev pub invariant-loop-round : goal.invariant-loop-round
invariant-loop-round l = IsGuardedSoFar l.scenario l._round l.guarded
