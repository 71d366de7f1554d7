use Rattle.std.specs.Prelude.{◌≡◌, ℕ, zero, suc, ◌+◌, Option, Some, None, List, [], ◌∷◌, ◌++◌, map}
use Rattle.nook_data.specs.Types.{Context, Event, Fault, FaultKind, PartSpec, Step}
use Rattle.nook_data.specs.declared.steps.Step.TheVariants as step
use Rattle.guard_defs.specs.Guard.{guard, guarded, known_at_first}
use Rattle.guard_defs.specs.Turns.{turns_of}
use Rattle.machine_defs.specs.BurstFaults.{faults_of_burst}
use Rattle.part_defs.specs.Domain.{context_of, machine_of}
use Rattle.part_defs.specs.Runs.{state_after, step_of}
use Rattle.part_defs.specs.State.{PartState}
use Rattle.part_defs.specs.Steps.{opening}
use Rattle.promise_defs.specs.Contract.{Known, known_after}

-- Every single fault: each of some kinds of fault is added after a part's own faults, at every burst and every
-- instruction at which it strikes.

-- the number of instructions of the next burst of what runs in a context; 0 if nothing runs
abbrev pub turns_made : PartState → Option Context → ℕ
turns_made p None = 0
turns_made p (Some x) = turns_of p.domain.entries (faults_of_burst (p.bursts + 1) p.spec.faults) (machine_of x p.domain)

-- a fault of a kind, in a burst, after this many instructions
abbrev pub put_at : ℕ → ℕ → FaultKind → Fault
put_at burst after kind = record { burst = burst; after = after; kind = kind }

-- each of some kinds of fault before each of this many instructions of a burst, the first of them after some others
unfoldable pub faults_in : List FaultKind → ℕ → ℕ → ℕ → List Fault
faults_in kinds burst after zero = []
faults_in kinds burst after (suc turns) = map (put_at burst after) kinds ++ faults_in kinds burst (after + 1) turns

-- the number of positions in a burst at which a fault can strike: before each executed instruction and, if the guard's
-- trap ends the burst, also before the trap
abbrev pub open_turns : PartState → ℕ → Option Fault → ℕ
open_turns p context None = turns_made p (context_of context p.domain.contexts)
open_turns p context (Some stop) = stop.after + 1

-- every fault of the kinds that strikes in a step, given the guard's trap of that step, if any
abbrev pub faults_of_step : List FaultKind → PartState → Option Fault → Step → List Fault
faults_of_step kinds p stop (step.Burst context) = faults_in kinds (p.bursts + 1) 0 (open_turns p context stop)
faults_of_step kinds p stop s = []

-- every fault of the kinds that strikes in some events, from a part on
unfoldable pub every_from : List FaultKind → PartState → List Event → List Fault
every_from kinds p [] = []
every_from kinds p (e ∷ events) = faults_of_step kinds p None (step_of e) ++ every_from kinds (state_after p (step_of e)) events

-- every fault of the kinds that strikes in the events of a guarded run, from a part and what is known of it on
unfoldable pub every_guarded_from : List FaultKind → PartState → Known → List Event → List Fault
every_guarded_from kinds p k [] = []
every_guarded_from kinds p k (e ∷ events) = faults_of_step kinds p (guard p k (step_of e)) (step_of e)
    ++ every_guarded_from kinds (state_after (guarded p k (step_of e)) (step_of e)) (known_after k e) events

-- every fault of the kinds that strikes in a part's journal
abbrev pub every_fault : List FaultKind → PartSpec → List Event → List Fault
every_fault kinds spec journal = every_from kinds (opening spec) journal

-- every fault of the kinds that strikes in the journal of a part's guarded run
abbrev pub every_fault_guarded : List FaultKind → PartSpec → List Event → List Fault
every_fault_guarded kinds spec journal = every_guarded_from kinds (opening spec) (known_at_first spec) journal

-- an item is in a list
abbrev pub IsIn : {X : Type 0} → List X → X → Type 0
IsIn {X} xs x = (front back : List X) × (xs ≡ front ++ x ∷ back)
