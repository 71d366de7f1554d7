-- Names that proofs give to single changes within the definitions.
use Rattle.std.specs.Prelude.{ℕ, ◌==◌, Option, Some, None, [], ◌∷◌, ◌++◌, slice_get, if◌then◌else◌}
use Rattle.nook_data.specs.declared.calls.Answer.{Answer}
use Rattle.nook_data.specs.declared.steps.Event.{Event}
use Rattle.nook_data.specs.Answers.{answer_at}
use Rattle.run_defs.specs.Schedules.{Order}
use Rattle.run_defs.specs.Simulation.{Choice, Simulation, ThreadState, Waiting, stepped_by}

-- a thread whose call was answered no longer waits, and has the answer
abbrev pub settled_by : ℕ → ThreadState → Option Answer → ThreadState
settled_by part s o =
    elim o [ None ↦ s | Some a ↦ record s { waiting = None; answers = s.answers ++ (part, a) ∷ [] } ]

-- a thread after an event, which may answer its open call
abbrev pub settled : ℕ → Event → ThreadState → Option Waiting → ThreadState
settled part e s o =
    elim o [ None ↦ s | Some w ↦ settled_by part s (if w.part == part then answer_at w.call e else None) ]

-- the simulation after a choice, with the remaining schedule
abbrev pub taken_by : Simulation → Order → Option Choice → Simulation
taken_by s order o = elim o [ None ↦ record s { order = order } | Some c ↦ stepped_by s order c (slice_get s.parts c.part) ]
