use Rattle.std.specs.Prelude.{◌≡◌, ℕ, ◌==◌, ◌&&◌, Bool, false, Option, Some, None, List, option_map, position, slice_get, take}
use Rattle.nook_data.specs.declared.steps.Event.{Event}
use Rattle.nook_data.specs.declared.steps.Event.TheVariants as event
use Rattle.nook_data.specs.declared.scenario.PartSpec.{PartSpec}
use Rattle.nook_data.specs.declared.scenario.Scenario.{Scenario}
use Rattle.nook_data.specs.declared.steps.Step.{Step}
use Rattle.part_defs.specs.Runs.{event_of, state_of}
use Rattle.run_defs.specs.Simulation.{Choice, IsScheduledRun, RunningPart, Simulation, journals_of}
use Rattle.part_defs.specs.State.{DomainState, PartState}
use Rattle.sim_run.specs.declared.whole_run.FoundBurst.{FoundBurst}

-- One burst in the journals of a run, by its number.

-- the event is the burst with this number
abbrev pub is_burst : ℕ → Event → Bool
is_burst number (event.Burst context call burst count end acts answer failure) = burst == number
is_burst number _ = false

-- what is found of a burst: its part's domain before it, and its event
abbrev pub found_at : PartSpec → List Event → Option ℕ → Option (DomainState × Event)
found_at spec journal None = None
found_at spec journal (Some k) = option_map (λ e. ((state_of spec (take k journal)).domain, e)) (slice_get journal k)

-- the same by the burst's number; none if the run has no such part, or the part has no such burst
abbrev pub burst_found : ℕ → Option PartSpec → Option (List Event) → Option (DomainState × Event)
burst_found number None journal = None
burst_found number (Some spec) None = None
burst_found number (Some spec) (Some journal) = found_at spec journal (position (is_burst number) journal)

-- a burst that was found, as contracts see it
abbrev pub shown_burst : FoundBurst → DomainState × Event
shown_burst b = (b.domain.state, b.event)

-- it is burst `number` of part `index` in the scenario's scheduled run
pub record LeadsToBurst (scenario : Scenario) (index number : ℕ) (found : Option FoundBurst) : Type 0 where
  pub simulation : Simulation
  pub scheduled : IsScheduledRun scenario simulation
  pub same : option_map shown_burst found
      ≡ burst_found number (slice_get scenario.parts index) (slice_get (journals_of simulation) index)

-- The burst during the search for it.

-- a choice makes burst `number` of part `index`, if its part is now this one
abbrev pub is_burst_at : ℕ → ℕ → Choice → Option RunningPart → Bool
is_burst_at index number c None = false
is_burst_at index number c (Some seat) = c.part == index && is_burst number (event_of seat.run.state c.step)

-- the domain before a step, and the step's event
abbrev pub shown_step : PartState → Step → DomainState × Event
shown_step p s = (p.domain, event_of p s)

-- what was found is a step of the part in its current state
abbrev pub IsFoundIn : Option RunningPart → Step → FoundBurst → Type 0
IsFoundIn None s found = ⊥
IsFoundIn (Some seat) s found = shown_burst found ≡ shown_step seat.run.state s
