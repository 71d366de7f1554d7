use Rattle.front_laws.proofs.GuardRun.{guarded_well}
use Rattle.front_laws.proofs.guards.every_guarded_run_keeps_the_contract.Goals as goal

pub returns : goal.returns
returns c = guarded_well
