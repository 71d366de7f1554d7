use Rattle.std.specs.Prelude.{◌≡◌, ℕ, zero, suc, ◌+◌, ◌*◌, ◌==◌, if◌then◌else◌, Option, Some, None, List, [], ◌∷◌, ◌++◌}
use Rattle.std.specs.Prelude.{length, map, slice_get, slice_set, drop, option_map, filter_map, flat_map}
use Rattle.std.specs.List.{cons_option, enumerate_from}
use Rattle.nook_data.specs.Types.{Answer, Event, Op, PartSpec, Scenario, Step, ThreadSpec}
use Rattle.nook_data.specs.declared.steps.Event.TheVariants as event
use Rattle.nook_data.specs.declared.steps.Step.TheVariants as step
use Rattle.part_defs.specs.Runs.{PartRun, opening_run, run_after, event_of, if_enabled, next_for, next_recovery}
use Rattle.nook_data.specs.Answers.{answer_at}
use Rattle.run_defs.specs.Schedules.{Order, opening_order, picked}

-- The run of a scenario: its actors take steps of its parts under its schedule. With T threads, actor t is thread
-- t, actor T + 2p the recovery of part p, and actor T + 2p + 1 the arrivals of part p.

-- a thread's open call
pub record Waiting : Type 0 where
  pub part : ℕ
  pub call : ℕ

-- a thread: the operations that it has not invoked yet, its open call, and its answers, each with its part
pub record ThreadState : Type 0 where
  pub rest : List (ℕ × Op)
  pub waiting : Option Waiting
  pub answers : List (ℕ × Answer)

-- a part and the frames that have not arrived yet
pub record RunningPart : Type 0 where
  pub run : PartRun
  pub coming : List (List ℕ)

-- the state of a scenario's run: its schedule, its parts and its threads
pub record Simulation : Type 0 where
  pub order : Order
  pub parts : List RunningPart
  pub threads : List ThreadState

-- the initial thread: it has not invoked any operation
abbrev pub opening_thread : ThreadSpec → ThreadState
opening_thread t = record { rest = t.ops; waiting = None; answers = [] }

-- the initial part: no frame has arrived
abbrev pub opening_part : PartSpec → RunningPart
opening_part spec = record { run = opening_run spec; coming = spec.arrivals }

-- a scenario's run before its first step
unfoldable pub begins : Scenario → Simulation
begins s = record {
  order = opening_order s.schedule;
  parts = map opening_part s.parts;
  threads = map opening_thread s.threads;
}

-- The possible next steps

-- a step that an actor can take, and the part that takes it
pub record Choice : Type 0 where
  pub actor : ℕ
  pub part : ℕ
  pub step : Step

-- an actor's choice, if it has a step
abbrev pub choice_of : ℕ → ℕ → Option Step → Option Choice
choice_of actor part s = option_map (λ s. record { actor = actor; part = part; step = s }) s

-- the Invoke of an operation, if it may be taken; a valid scenario names only existing parts
abbrev pub invocation : ℕ → Op → Option RunningPart → Option Step
invocation thread o p = elim p [ None ↦ None | Some seat ↦ if_enabled seat.run.state (step.Invoke thread o) None ]

-- the next step of the thread's open call, whose part always exists
abbrev pub going_on : ℕ → Option RunningPart → Option Step
going_on thread part = elim part [ None ↦ None | Some seat ↦ next_for seat.run.state thread ]

-- a thread continues its open call; if it has none, it invokes its next operation
abbrev pub choice_of_thread : List RunningPart → ℕ × ThreadState → Option Choice
choice_of_thread parts (thread, t) = elim t.waiting [
  | Some w ↦ choice_of thread w.part (going_on thread (slice_get parts w.part))
  | None ↦ elim t.rest [ [] ↦ None | (o ∷ rest) ↦ choice_of thread o.0 (invocation thread o.1 (slice_get parts o.0)) ]
]

-- the next arrival, if it may be taken
abbrev pub arrival : PartRun → List (List ℕ) → Option Step
arrival r coming = elim coming [ [] ↦ None | (frame ∷ rest) ↦ if_enabled r.state (step.Arrive frame) None ]

-- the recovery of a part, followed by its arrivals
abbrev pub choices_of_part : ℕ → ℕ × RunningPart → List Choice
choices_of_part threads (part, seat) = cons_option (choice_of (threads + 2 * part) part (next_recovery seat.run.state))
    (cons_option (choice_of (threads + 2 * part + 1) part (arrival seat.run seat.coming)) [])

-- the steps that the actors can take, in rising order of actors
unfoldable pub choices_of : Simulation → List Choice
choices_of s = filter_map (choice_of_thread s.parts) (enumerate_from 0 s.threads)
    ++ flat_map (choices_of_part (length s.threads)) (enumerate_from 0 s.parts)

-- The changes by a step

-- the number of a choice's actor, by which the schedule picks
abbrev pub actor_of : Choice → ℕ
actor_of c = c.actor

-- an invocation by the thread takes its next operation
abbrev pub started : ℕ → ℕ → Event → ThreadState → ThreadState
started thread part (event.Invoke call t o answer) s = record s {
  rest = if t == thread then drop 1 s.rest else s.rest;
  waiting = if t == thread then Some (record { part = part; call = call }) else s.waiting;
}
started thread part _ s = s

-- a thread after an event of a part: if the event answers its open call, it no longer waits and has the answer
abbrev pub thread_after : ℕ → Event → ThreadState → ThreadState
thread_after part e s = elim s.waiting [
  | None ↦ s
  | Some w ↦ elim (if w.part == part then answer_at w.call e else None) [
    | None ↦ s
    | Some a ↦ record s { waiting = None; answers = s.answers ++ (part, a) ∷ [] }
  ]
]

-- the threads after an event of a part; an Invoke also updates the thread that takes the step
abbrev pub threads_after : ℕ → ℕ → Event → List ThreadState → List ThreadState
threads_after thread part e [] = []
threads_after thread part e (s ∷ threads) =
    thread_after part e (started thread part e s) ∷ threads_after (thread + 1) part e threads

-- the frames still to arrive after a step: an arrival takes the next one
abbrev pub coming_after : Step → List (List ℕ) → List (List ℕ)
coming_after (step.Arrive frame) (next ∷ coming) = coming
coming_after s coming = coming

-- a part after one of its steps
abbrev pub part_after : Step → RunningPart → RunningPart
part_after s seat = record { run = run_after seat.run s; coming = coming_after s seat.coming }

-- the simulation after a choice in a part; the part of a choice always exists
abbrev pub stepped_by : Simulation → Order → Choice → Option RunningPart → Simulation
stepped_by s order c None = record s { order = order }
stepped_by s order c (Some seat) = record {
  order = order;
  parts = slice_set s.parts c.part (part_after c.step seat);
  threads = threads_after 0 c.part (event_of seat.run.state c.step) s.threads;
}

-- the simulation after the choice that the schedule picks, if there is one
unfoldable pub taken : Simulation → List Choice → Simulation
taken s choices =
    let p = picked s.order (map actor_of choices) in
    elim (slice_get choices p.index) [
      | None ↦ record s { order = p.order }
      | Some c ↦ stepped_by s p.order c (slice_get s.parts c.part)
    ]

-- takes at most this many steps, and ends if no actor has one
unfoldable pub runs : ℕ → Simulation → Simulation
runs zero s = s
runs (suc more) s = elim (choices_of s) [ [] ↦ s | (c ∷ choices) ↦ runs more (taken s (c ∷ choices)) ]

-- the simulation is the whole run of the scenario: no actor has a step left
pub record IsScheduledRun (scenario : Scenario) (s : Simulation) : Type 0 where
  pub steps : ℕ
  pub reached : runs steps (begins scenario) ≡ s
  pub ended : choices_of s ≡ []

-- a part's journal
abbrev pub journal_of : RunningPart → List Event
journal_of seat = seat.run.journal

-- a thread's answers
abbrev pub answers_of_thread : ThreadState → List (ℕ × Answer)
answers_of_thread t = t.answers

-- the journals of the parts
abbrev pub journals_of : Simulation → List (List Event)
journals_of s = map journal_of s.parts

-- the answers of each thread, with their parts
abbrev pub answer_table : Simulation → List (List (ℕ × Answer))
answer_table s = map answers_of_thread s.threads

-- the number of events of some journals
abbrev pub events_count : List (List Event) → ℕ
events_count [] = 0
events_count (events ∷ journals) = length events + events_count journals
