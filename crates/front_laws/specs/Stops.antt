use Rattle.std.specs.Prelude.{◌≡◌, ℕ, ◌+◌, List, [], ◌∷◌}
use Rattle.guard_defs.specs.declared.stop.Stop.{Stop}
use Rattle.guard_defs.specs.FirstBreaks.{stopped}
use Rattle.guard_defs.specs.GuardedRuns.{IsGuardedSchedule, guarded_scenario, stops_found}
use Rattle.nook_data.specs.Types.{PartSpec, Scenario}
use Rattle.run_defs.specs.Simulation.{Simulation, begins}

-- The traps of a guard that are found one by one, each in the scenario with the earlier ones.

-- the number of traps that the guard may put into these parts: one more than the failures that each part recovers from
abbrev pub most_traps : List PartSpec → ℕ
most_traps [] = 0
most_traps (spec ∷ specs) = spec.limit + 1 + most_traps specs

-- the simulation is the scenario's whole guarded run, in which exactly these traps are found, in this order; and the
-- scenario with these traps is the guarded scenario
pub record IsGuardedBy (scenario : Scenario) (stops : List Stop) (s : Simulation) : Type 0 where
  pub guarded : IsGuardedSchedule scenario s
  pub found : stops ≡ stops_found guarded.steps (begins scenario)
  pub same : stopped scenario stops ≡ guarded_scenario scenario s
