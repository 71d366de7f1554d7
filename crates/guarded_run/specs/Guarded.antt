use Rattle.std.specs.Prelude.{◌≡◌}
use Rattle.guard_defs.specs.FirstBreaks.{AreNeeded, NoneBreaks, stopped}
use Rattle.guard_defs.specs.GuardedRuns.{IsGuardedSchedule, guarded_scenario, stops_found}
use Rattle.guarded_run.specs.declared.guarded.Guarded.{Guarded}
use Rattle.nook_data.specs.Types.{Scenario}
use Rattle.nook_data.specs.Valid.{IsValidScenario}
use Rattle.run_defs.specs.Simulation.{IsScheduledRun, Simulation, begins}

-- a scenario was guarded: the result is its guarded scenario, whose scheduled run is its guarded run and breaks no
-- clause; the traps are those of the guarded run, in the order in which it finds them, and each is needed
pub record IsGuarded (scenario : Scenario) (made : Guarded) : Type 0 where
  pub simulation : Simulation
  pub guarded : IsGuardedSchedule scenario simulation
  pub same : made.scenario ≡ guarded_scenario scenario simulation
  pub stopped_is : made.scenario ≡ stopped scenario made.stops
  pub stops : made.stops ≡ stops_found guarded.steps (begins scenario)
  pub needed : AreNeeded scenario made.stops
  pub scheduled : IsScheduledRun made.scenario simulation
  pub none_breaks : NoneBreaks simulation
  pub valid : IsValidScenario made.scenario
