-- Every scenario has a guarded run.
use Rattle.std.proofs.Common.{◌≡◌, ◌≤◌, ℕ, ◌^◌, [], All, refl, subst, arith}
use Rattle.front_laws.proofs.GuardedRuns.{guarded_reaches}
use Rattle.front_laws.proofs.ValidGuarded.{guarded_valid}
use Rattle.guard_defs.specs.Guard.{HasRoom}
use Rattle.guard_defs.specs.GuardedRuns.{IsGuardedSchedule, guarded_runs, guarded_scenario}
use Rattle.nook_data.specs.Valid.{IsValidScenario}
use Rattle.nook_data.specs.declared.scenario.Scenario.{Scenario}
use Rattle.run_defs.specs.Simulation.{Simulation, begins, choices_of}
use Rattle.sim_run.proofs.Ending.{ends_by}

-- after this many steps the guarded run is the run of a valid scenario, which has ended by then
ended_by : (scenario : Scenario) (n : ℕ) → IsValidScenario scenario → All HasRoom scenario.parts → 2 ^ 26 ≤ n
    → IsGuardedSchedule scenario (guarded_runs n (begins scenario))
ended_by scenario n valid room l =
    let t : Simulation = guarded_runs n (begins scenario) in
    record {
      steps = n;
      reached = refl;
      ended = subst (λ (s : Simulation). choices_of s ≡ []) (guarded_reaches scenario n t refl)
          (ends_by (guarded_scenario scenario t) n (guarded_valid scenario n valid room) l).ended;
    }

pub guarded_ends : (scenario : Scenario) → IsValidScenario scenario → All HasRoom scenario.parts
    → (s : Simulation) × IsGuardedSchedule scenario s
guarded_ends scenario valid room =
    (guarded_runs (2 ^ 26) (begins scenario), ended_by scenario (2 ^ 26) valid room (omega arith))
