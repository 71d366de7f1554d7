use Rattle.std.specs.Prelude.{◌≡◌, ℕ, zero, suc, Option, Some, None, List, [], ◌∷◌, ◌++◌, map, fold, slice_get, option_map}
use Rattle.nook_data.specs.Types.{Clause, Fault, PartSpec, Scenario, Step}
use Rattle.nook_data.specs.declared.steps.Step.TheVariants as step
use Rattle.part_defs.specs.State.{PartState}
use Rattle.promise_defs.specs.Contract.{Known, known_after}
use Rattle.run_defs.specs.Schedules.{picked}
use Rattle.run_defs.specs.Simulation.{Choice, RunningPart, Simulation, actor_of, begins, choices_of, stepped_by}
use Rattle.guard_defs.specs.declared.stop.Stop.{Stop}
use Rattle.guard_defs.specs.Guard.{guard, guard_clause, guarded, known_at_first}

-- The guarded run of a scenario: its scheduled run, in which each burst that would break a clause runs with the
-- guard's trap added after the faults of its part.

-- what is known of a part from its journal
abbrev pub known_of : RunningPart → Known
known_of seat = fold known_after (known_at_first seat.run.state.spec) seat.run.journal

-- a part at the start of a step under the guard
abbrev pub guarded_seat : Step → RunningPart → RunningPart
guarded_seat s seat = record seat { run = record seat.run { state = guarded seat.run.state (known_of seat) s } }

-- the simulation after the choice that the schedule picks, under the guard
unfoldable pub guarded_taken : Simulation → List Choice → Simulation
guarded_taken s choices =
    let p = picked s.order (map actor_of choices) in
    elim (slice_get choices p.index) [
      | None ↦ record s { order = p.order }
      | Some c ↦ stepped_by s p.order c (option_map (guarded_seat c.step) (slice_get s.parts c.part))
    ]

-- takes at most this many steps under the guard, and ends if no actor has one
unfoldable pub guarded_runs : ℕ → Simulation → Simulation
guarded_runs zero s = s
guarded_runs (suc more) s =
    elim (choices_of s) [ [] ↦ s | (c ∷ choices) ↦ guarded_runs more (guarded_taken s (c ∷ choices)) ]

-- a part as the scenario describes it
abbrev pub spec_of : RunningPart → PartSpec
spec_of seat = seat.run.state.spec

-- the scenario of a guarded run: each part has its own faults, followed by the traps in the order they were found
abbrev pub guarded_scenario : Scenario → Simulation → Scenario
guarded_scenario scenario s = record scenario { parts = map spec_of s.parts }

-- the simulation is the whole guarded run of the scenario: no actor has a step left
pub record IsGuardedSchedule (scenario : Scenario) (s : Simulation) : Type 0 where
  pub steps : ℕ
  pub reached : guarded_runs steps (begins scenario) ≡ s
  pub ended : choices_of s ≡ []

-- The traps in the order in which they are found.

-- the clause that is reported for a step; only a burst can break one
abbrev pub reported_clause : PartState → Known → Step → Option Clause
reported_clause p k (step.Burst context) = guard_clause context p k
reported_clause p k s = None

-- a trap and its clause, if there are both
abbrev pub stop_of : ℕ → Option Fault → Option Clause → List Stop
stop_of part (Some f) (Some clause) = record { part = part; trap = f; clause = clause } ∷ []
stop_of part f clause = []

-- the guard's trap of a choice, in the current state of its part
abbrev pub stop_at : Choice → Option RunningPart → List Stop
stop_at c None = []
stop_at c (Some seat) = stop_of c.part (guard seat.run.state (known_of seat) c.step)
    (reported_clause seat.run.state (known_of seat) c.step)

abbrev pub stop_by : List RunningPart → Option Choice → List Stop
stop_by parts None = []
stop_by parts (Some c) = stop_at c (slice_get parts c.part)

-- the guard's trap of the choice that the schedule picks
unfoldable pub stop_made : Simulation → List Choice → List Stop
stop_made s choices = stop_by s.parts (slice_get choices (picked s.order (map actor_of choices)).index)

-- a simulation after one step under the guard, if an actor has one
abbrev pub guarded_moved : Simulation → List Choice → Simulation
guarded_moved s [] = s
guarded_moved s (c ∷ choices) = guarded_taken s (c ∷ choices)

-- the traps of at most this many steps, in the order in which they are found
unfoldable pub stops_found : ℕ → Simulation → List Stop
stops_found zero s = []
stops_found (suc more) s = stop_made s (choices_of s) ++ stops_found more (guarded_moved s (choices_of s))
