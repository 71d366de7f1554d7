use Rattle.std.specs.Prelude.{◌≡◌, ℕ, ◌<◌, slice_set, Bool, true, false, Option, Some, None, List, [], length, slice_get}
use Rattle.guard_defs.specs.FirstBreaks.{picked_choice}
use Rattle.part_defs.specs.Runs.{event_of}
use Rattle.run_defs.specs.Schedules.{Order}
use Rattle.run_defs.specs.Simulation.{Choice, RunningPart, Simulation, ThreadState, choices_of, part_after, stepped_by}
use Rattle.run_defs.specs.Simulation.{taken, threads_after}
use Rattle.nook_data.specs.declared.steps.Step.{Step}
use Rattle.sim_run.specs.Published.{made, made_of}
use Rattle.sim_run.specs.Reached.{IsOpenChoice}

-- How the results of methods relate to the definition of a run.

abbrev pub state_at : Order → List RunningPart → List ThreadState → Simulation
state_at order parts threads = record { order = order; parts = parts; threads = threads }

-- the choice that the schedule picks, and the simulation before that choice is taken; or there is no choice
abbrev pub IsPick : Simulation → Option Choice → Simulation → Type 0
IsPick s None t = (choices_of s ≡ []) × (t ≡ s)
IsPick s (Some c) t =
    (0 < length (choices_of s)) × IsOpenChoice t.parts c
    × (stepped_by t t.order c (slice_get t.parts c.part) ≡ taken s (choices_of s))
    × (made_of c (slice_get t.parts c.part) ≡ made s (choices_of s))
    × (picked_choice s ≡ Some c)

-- a step was taken, or no actor has one
abbrev pub IsAdvanced : Simulation → Bool → Simulation → Type 0
IsAdvanced s true t = (0 < length (choices_of s)) × (t ≡ taken s (choices_of s))
IsAdvanced s false t = (choices_of s ≡ []) × (t ≡ s)

-- part `index` took the step, and its newest event is that of the step
abbrev pub IsSteppedSeat : Option RunningPart → List RunningPart → ℕ → Step → List RunningPart → Type 0
IsSteppedSeat None seats index s new = ⊥
IsSteppedSeat (Some seat) seats index s new =
    (new ≡ slice_set seats index (part_after s seat)) × (slice_get new index ≡ Some (part_after s seat))

-- the choice's part took its step, and each thread noted the event
abbrev pub IsTaken : Option RunningPart → Choice → List RunningPart → List ThreadState → List RunningPart → List ThreadState → Type 0
IsTaken None c seats threads new noted = ⊥
IsTaken (Some seat) c seats threads new noted =
    (new ≡ slice_set seats c.part (part_after c.step seat))
    × (noted ≡ threads_after 0 c.part (event_of seat.run.state c.step) threads)
