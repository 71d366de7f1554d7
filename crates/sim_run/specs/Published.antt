use Rattle.std.specs.Prelude.{◌≡◌, ℕ, zero, suc, ◌+◌, ◌==◌, if◌then◌else◌, Bool, true, false, Option, Some, None, Result, Ok, Err, List, [], ◌∷◌, ◌++◌, map, slice_get, ◌⊎◌}
use Rattle.nook_data.specs.declared.steps.Event.{Event}
use Rattle.nook_data.specs.declared.memory.NoMemory.{NoMemory}
use Rattle.nook_io.specs.Listening.{Listening}
use Rattle.part_defs.specs.Runs.{event_of}
use Rattle.run_defs.specs.Schedules.{picked}
use Rattle.run_defs.specs.Simulation.{Choice, RunningPart, Simulation, actor_of, choices_of, taken}
use Rattle.nook_io.specs.Listening.{heard_events}
use Rattle.request_taps.specs.Bus.{after_hearing_all}
use Rattle.request_taps.specs.declared.tap.Tap.{Tap}
use Rattle.run_results.specs.Journals.{with_part}

-- The events of a run in the order in which they are made, each with its part.

-- the event of a choice
abbrev pub made_of : Choice → Option RunningPart → List (ℕ × Event)
made_of c None = []
made_of c (Some seat) = (c.part, event_of seat.run.state c.step) ∷ []

abbrev pub made_by : List RunningPart → Option Choice → List (ℕ × Event)
made_by parts None = []
made_by parts (Some c) = made_of c (slice_get parts c.part)

-- the event of the choice that the schedule picks; none if there is no choice
unfoldable pub made : Simulation → List Choice → List (ℕ × Event)
made s choices = made_by s.parts (slice_get choices (picked s.order (map actor_of choices)).index)

-- a simulation after one step, if an actor has one
abbrev pub moved : Simulation → List Choice → Simulation
moved s [] = s
moved s (c ∷ choices) = taken s (c ∷ choices)

-- the events of at most this many steps
unfoldable pub published : ℕ → Simulation → List (ℕ × Event)
published zero s = []
published (suc more) s = made s (choices_of s) ++ published more (moved s (choices_of s))

-- The published events of one part, and those that a listener hears.

-- the events of one part
abbrev pub events_of_part : ℕ → List (ℕ × Event) → List Event
events_of_part part [] = []
events_of_part part (e ∷ events) = if e.0 == part then e.1 ∷ events_of_part part events else events_of_part part events

-- how many events of the journals a listener hears; the first journal is that of part `part`
abbrev pub heard_in_journals : Listening → ℕ → List (List Event) → ℕ
heard_in_journals l part [] = 0
heard_in_journals l part (journal ∷ journals) =
    heard_events l (with_part part journal) + heard_in_journals l (part + 1) journals

-- What taps hear of one step. If memory runs out, the event may have been made or not.
abbrev pub HearsStep : Simulation → Result Bool NoMemory → List (Tap Listening) → List (Tap Listening) → Type 0
HearsStep s (Ok true) old new = new ≡ after_hearing_all (made s (choices_of s)) old
HearsStep s (Ok false) old new = new ≡ old
HearsStep s (Err x) old new = (new ≡ old) ⊎ (new ≡ after_hearing_all (made s (choices_of s)) old)

-- What taps hear of a choice that is taken.
abbrev pub HearsChoice : {T : Type 0} → List (ℕ × Event) → Result T NoMemory → List (Tap Listening) → List (Tap Listening) → Type 0
HearsChoice events (Ok x) old new = new ≡ after_hearing_all events old
HearsChoice events (Err x) old new = (new ≡ old) ⊎ (new ≡ after_hearing_all events old)
