use Rattle.std.specs.Prelude.{◌≡◌, ℕ, Bool, List, map}
use Rattle.nook_data.specs.declared.calls.Answer.{Answer}
use Rattle.nook_data.specs.declared.steps.Event.{Event}
use Rattle.nook_data.specs.declared.scenario.Scenario.{Scenario}
use Rattle.nook_io.specs.Listening.{Listening}
use Rattle.nook_data.specs.Views.Room.{Kept}
use Rattle.run_defs.specs.Simulation.{IsScheduledRun, Simulation, answer_table, begins, journals_of}
use Rattle.request_taps.specs.Bus.{result_of, after_hearing_all}
use Rattle.request_taps.specs.declared.tap.Tap.{Tap}
use Rattle.run_results.specs.Journals.{events_in}
use Rattle.sim_run.specs.Published.{published}

-- The result of a whole run.

-- the taps heard the events of the run's first `steps` steps, in the order in which they were made
abbrev pub HeardSteps : Scenario → ℕ → List (Tap Listening) → List (Tap Listening) → Type 0
HeardSteps scenario steps old new = new ≡ after_hearing_all (published steps (begins scenario)) old

-- the run is complete, and the taps heard each of its events
pub record IsWhole (scenario : Scenario) (simulation : Simulation) (old new : List (Tap Listening)) : Type 0 where
  pub scheduled : IsScheduledRun scenario simulation
  pub heard : HeardSteps scenario scheduled.steps old new

-- the journals and answers are those of the scheduled run; the taps heard each event of it; `totals` are their totals
pub record IsSimulated (scenario : Scenario) (journals : List (Kept Event)) (answers : List (List (ℕ × Answer)))
    (totals : List (ℕ × Bool)) (old new : List (Tap Listening)) : Type 0 where
  pub simulation : Simulation
  pub scheduled : IsScheduledRun scenario simulation
  pub same_journals : map events_in journals ≡ journals_of simulation
  pub same_answers : answers ≡ answer_table simulation
  pub heard : HeardSteps scenario scheduled.steps old new
  pub same_totals : totals ≡ map result_of new
