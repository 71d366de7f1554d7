-- A scenario that can be run has one run under a campaign's guard, and it is a run of a valid scenario.
use Rattle.std.proofs.Common.{◌≡◌, ◌∙◌, ℕ, Bool, true, false, length, refl, sym, ap, subst}
use Rattle.campaign_defs.specs.Members.{CanRunUnder, IsRunUnder, Ran}
use Rattle.campaign_laws.proofs.Traps.{traps_once}
use Rattle.front_laws.proofs.GuardedRuns.{guarded_scheduled}
use Rattle.front_laws.proofs.Unique.{one_guarded_run}
use Rattle.front_laws.proofs.ValidGuarded.{guarded_valid}
use Rattle.guard_defs.specs.GuardedRuns.{guarded_scenario, stops_found}
use Rattle.guarded_run.proofs.Ending.{guarded_ends}
use Rattle.nook_data.specs.Valid.{IsValidScenario}
use Rattle.nook_data.specs.declared.scenario.Scenario.{Scenario}
use Rattle.run_defs.specs.Simulation.{Simulation, begins}
use Rattle.sim_run.proofs.Ending.{scheduled_ends, scheduled_once}

-- ---- it has a run

pub run_under_exists : (guard : Bool) (scenario : Scenario) → CanRunUnder guard scenario → (ran : Ran) × IsRunUnder guard scenario ran
run_under_exists false scenario can =
    let end = scheduled_ends scenario can.valid in (
      record { scenario = scenario; simulation = end.0; traps = 0 },
      record { same = refl; scheduled = end.1; no_traps = refl },
    )
run_under_exists true scenario can =
    let end = guarded_ends scenario can.valid (can.room refl) in (
      record {
        scenario = guarded_scenario scenario end.0;
        simulation = end.0;
        traps = length (stops_found end.1.steps (begins scenario));
      },
      record { guarded = end.1; same = refl; scheduled = guarded_scheduled scenario end.0 end.1; count = refl },
    )

-- ---- it has one

abbrev ran_of : Scenario → Simulation → ℕ → Ran
ran_of scenario simulation traps = record { scenario = scenario; simulation = simulation; traps = traps }

same_ran : (r q : Ran) → r.scenario ≡ q.scenario → r.simulation ≡ q.simulation → r.traps ≡ q.traps → r ≡ q
same_ran r q scenario simulation traps =
    ap (λ (x : Scenario). ran_of x r.simulation r.traps) scenario
    ∙ ap (λ (x : Simulation). ran_of q.scenario x r.traps) simulation
    ∙ ap (λ (x : ℕ). ran_of q.scenario q.simulation x) traps

pub run_under_once : (guard : Bool) (scenario : Scenario) (ran other : Ran) → IsRunUnder guard scenario ran
    → IsRunUnder guard scenario other → ran ≡ other
run_under_once false scenario ran other a b =
    same_ran ran other (a.same ∙ sym b.same) (scheduled_once scenario ran.simulation other.simulation a.scheduled b.scheduled)
    (a.no_traps ∙ sym b.no_traps)
run_under_once true scenario ran other a b =
    let same : ran.simulation ≡ other.simulation = one_guarded_run scenario ran.simulation other.simulation a.guarded b.guarded in
    same_ran ran other (a.same ∙ (ap (guarded_scenario scenario) same ∙ sym b.same)) same
    (a.count ∙ (ap length (traps_once scenario ran.simulation other.simulation a.guarded b.guarded) ∙ sym b.count))

-- ---- it is the run of a valid scenario

pub run_under_valid : (guard : Bool) (scenario : Scenario) (ran : Ran) → CanRunUnder guard scenario → IsRunUnder guard scenario ran
    → IsValidScenario ran.scenario
run_under_valid false scenario ran can is = subst IsValidScenario (sym is.same) can.valid
run_under_valid true scenario ran can is =
    subst IsValidScenario (sym is.same)
    (subst (λ (s : Simulation). IsValidScenario (guarded_scenario scenario s)) is.guarded.reached
    (guarded_valid scenario is.guarded.steps can.valid (can.room refl)))
