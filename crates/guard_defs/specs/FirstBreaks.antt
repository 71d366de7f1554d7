use Rattle.std.specs.Prelude.{◌≡◌, ℕ, Option, Some, None, List, [], ◌∷◌, map, slice_get}
use Rattle.nook_data.specs.Members.{struck}
use Rattle.nook_data.specs.Types.{Clause, Scenario}
use Rattle.nook_data.specs.declared.steps.Step.TheVariants as step
use Rattle.part_defs.specs.Runs.{event_of}
use Rattle.promise_defs.specs.Contract.{broken, first_break}
use Rattle.run_defs.specs.Schedules.{picked}
use Rattle.run_defs.specs.Simulation.{Choice, RunningPart, Simulation, actor_of, begins, choices_of, runs}
use Rattle.guard_defs.specs.declared.stop.Stop.{Stop}
use Rattle.guard_defs.specs.Guard.{guard_clause, guard_trap}
use Rattle.guard_defs.specs.GuardedRuns.{known_of, spec_of}

-- The first break of a scenario's scheduled run, over all its parts.

-- the choice that the schedule picks, if any actor has one
abbrev pub picked_choice : Simulation → Option Choice
picked_choice s = slice_get (choices_of s) (picked s.order (map actor_of (choices_of s))).index

-- no part of a simulation has broken a clause of its class's contract
abbrev pub NoneBreaks : Simulation → Type 0
NoneBreaks s = (index : ℕ) (seat : RunningPart) → slice_get s.parts index ≡ Some seat
    → first_break (spec_of seat).class (spec_of seat).blocks seat.run.journal ≡ None

-- after this many steps no part has broken a clause, and the next step is a burst of a part's context that breaks one
pub record IsFirstBreak (scenario : Scenario) (steps : ℕ) (choice : Choice) (seat : RunningPart) (context : ℕ) : Type 0 where
  pub kept : NoneBreaks (runs steps (begins scenario))
  pub picks : picked_choice (runs steps (begins scenario)) ≡ Some choice
  pub at : slice_get (runs steps (begins scenario)).parts choice.part ≡ Some seat
  pub burst : choice.step ≡ step.Burst context
  pub clause : Clause
  pub more : List Clause
  pub breaks : broken (known_of seat) (event_of seat.run.state (step.Burst context)) ≡ clause ∷ more

-- the guard's first trap of a scenario: its first break is at this part, and the trap is before the first deed of that
-- burst that breaks a clause; this clause is the smallest that the deed breaks
pub record IsFirstStop (scenario : Scenario) (stop : Stop) : Type 0 where
  pub steps : ℕ
  pub choice : Choice
  pub seat : RunningPart
  pub context : ℕ
  pub first : IsFirstBreak scenario steps choice seat context
  pub part : stop.part ≡ choice.part
  pub trap : stop.trap ≡ guard_trap context seat.run.state (known_of seat)
  pub clause : guard_clause context seat.run.state (known_of seat) ≡ Some stop.clause

-- a scenario with the traps of a guard added after the faults of their parts
unfoldable pub stopped : Scenario → List Stop → Scenario
stopped scenario [] = scenario
stopped scenario (stop ∷ stops) = stopped (struck scenario stop.part stop.trap) stops

-- each trap is needed: in the scenario with the earlier traps, it is the guard's first
unfoldable pub AreNeeded : Scenario → List Stop → Type 0
AreNeeded scenario [] = Unit {0}
AreNeeded scenario (stop ∷ stops) =
    IsFirstStop scenario stop × AreNeeded (struck scenario stop.part stop.trap) stops
