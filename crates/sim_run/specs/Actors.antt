use Rattle.std.specs.Prelude.{ℕ, Bool, is_some, ◌++◌, ◌+◌, ◌-◌, ◌/◌, ◌%◌, ◌==◌, nat_le, nat_lt, if◌then◌else◌, Option, Some, None, List, [], ◌∷◌, find, length, slice_get}
use Rattle.std.specs.Option.{option_or}
use Rattle.nook_data.specs.declared.calls.Op.{Op}
use Rattle.nook_data.specs.declared.steps.Step.{Step}
use Rattle.part_defs.specs.Runs.{next_recovery}
use Rattle.run_defs.specs.Simulation.{Choice, RunningPart, ThreadState, Waiting, arrival, going_on, invocation}

-- The step of one actor, by its number.

abbrev pub choice_by : ℕ → ℕ → Option Step → Option Choice
choice_by actor part None = None
choice_by actor part (Some s) = Some (record { actor = actor; part = part; step = s })

-- a thread invokes its next operation
abbrev pub invocation_of : ℕ → List RunningPart → List (ℕ × Op) → Option Choice
invocation_of thread parts [] = None
invocation_of thread parts ((part, o) ∷ rest) = choice_by thread part (invocation thread o (slice_get parts part))

-- a thread with an open call continues it, else it invokes
abbrev pub choice_when : ℕ → List RunningPart → ThreadState → Option Waiting → Option Choice
choice_when thread parts t None = invocation_of thread parts t.rest
choice_when thread parts t (Some w) = choice_by thread w.part (going_on thread (slice_get parts w.part))

abbrev pub choice_of_thread : ℕ → List RunningPart → Option ThreadState → Option Choice
choice_of_thread thread parts None = None
choice_of_thread thread parts (Some t) = choice_when thread parts t t.waiting

-- the first of a part's two actors is its recovery, the other its arrivals
abbrev pub step_of_seat : ℕ → RunningPart → Option Step
step_of_seat which seat = if which == 0 then next_recovery seat.run.state else arrival seat.run seat.coming

abbrev pub choice_of_seat : ℕ → ℕ → ℕ → Option RunningPart → Option Choice
choice_of_seat actor part which None = None
choice_of_seat actor part which (Some seat) = choice_by actor part (step_of_seat which seat)

-- an actor after the threads
abbrev pub choice_after : ℕ → ℕ → List RunningPart → Option Choice
choice_after actor following parts = choice_of_seat actor (following / 2) (following % 2) (slice_get parts (following / 2))

-- the choice of an actor, if it has a step
unfoldable pub choice_at : List RunningPart → List ThreadState → ℕ → Option Choice
choice_at parts threads actor =
    if nat_lt actor (length threads)
    then choice_of_thread actor parts (slice_get threads actor)
    else choice_after actor (actor - length threads) parts

-- Which actors have a step.

abbrev pub named_if : Bool → ℕ → List ℕ
named_if test actor = if test then actor ∷ [] else []

abbrev pub actors_of_seat : ℕ → RunningPart → List ℕ
actors_of_seat actor seat =
    named_if (is_some (next_recovery seat.run.state)) actor ++ named_if (is_some (arrival seat.run seat.coming)) (actor + 1)

-- the actors of the parts that have a step; `actor` is the number of the first part's first actor
unfoldable pub actors_of_seats : ℕ → List RunningPart → List ℕ
actors_of_seats actor [] = []
actors_of_seats actor (seat ∷ seats) = actors_of_seat actor seat ++ actors_of_seats (actor + 2) seats

abbrev pub has_step : ℕ → List RunningPart → ThreadState → Bool
has_step thread parts t = is_some (choice_when thread parts t t.waiting)

abbrev pub actor_of_thread : ℕ → List RunningPart → ThreadState → List ℕ
actor_of_thread thread parts t = named_if (has_step thread parts t) thread

-- the threads that have a step; the first has number `thread`
unfoldable pub actors_of_threads : ℕ → List RunningPart → List ThreadState → List ℕ
actors_of_threads thread parts [] = []
actors_of_threads thread parts (t ∷ threads) = actor_of_thread thread parts t ++ actors_of_threads (thread + 1) parts threads

-- the actors that have a step, in ascending order
abbrev pub actors_in : List RunningPart → List ThreadState → List ℕ
actors_in parts threads = actors_of_threads 0 parts threads ++ actors_of_seats (length threads) parts

-- The next actor of a round robin.

-- the first of some numbers that is at least `least`
abbrev pub first_from : ℕ → List ℕ → Option ℕ
first_from least numbers = find (nat_le least) numbers

-- the first number at or after a cursor, else the first
abbrev pub next_from : ℕ → List ℕ → Option ℕ
next_from cursor numbers = option_or (first_from cursor numbers) (first_from 0 numbers)
