-- The guarded scenario is a function of the scenario.
use Rattle.std.proofs.Common.{◌≡◌, sym, ap, ◌∙◌}
use Rattle.front_laws.proofs.Unique.{one_guarded_run}
use Rattle.guard_defs.specs.GuardedRuns.{guarded_scenario}
use Rattle.nook_data.specs.declared.scenario.Scenario.{Scenario}
use Rattle.nooks.specs.Answers.{IsGuardedScenario}

pub guarded_once : (scenario one other : Scenario) → IsGuardedScenario scenario one → IsGuardedScenario scenario other → one ≡ other
guarded_once scenario one other a b =
    a.same
    ∙ (ap (guarded_scenario scenario) (one_guarded_run scenario a.simulation b.simulation a.run b.run) ∙ sym b.same)
