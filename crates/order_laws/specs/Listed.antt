-- Runs under a listed schedule.
use Rattle.std.specs.Prelude.{◌≡◌, ℕ, List}
use Rattle.nook_data.specs.declared.calls.Answer.{Answer}
use Rattle.nook_data.specs.declared.scenario.Scenario.{Scenario}
use Rattle.nook_data.specs.declared.scenario.ScheduleSpec.TheVariants as schedule
use Rattle.nook_data.specs.declared.steps.Event.{Event}
use Rattle.run_defs.specs.Simulation.{IsScheduledRun, Simulation, answer_table, journals_of}

-- the scenario under a schedule that lists these picks
abbrev pub with_picks : Scenario → List ℕ → Scenario
with_picks scenario picks = record scenario { schedule = schedule.Listed picks }

-- with the right picks the scenario's scheduled run has these journals and answers
pub record IsListedRun (scenario : Scenario) (journals : List (List Event))
    (answers : List (List (ℕ × Answer))) : Type 0 where
  pub picks : List ℕ
  pub end : Simulation
  pub run : IsScheduledRun (with_picks scenario picks) end
  pub journals_same : journals_of end ≡ journals
  pub answers_same : answer_table end ≡ answers
