use Rattle.std.specs.Prelude.{◌≡◌, ◌≤◌, ℕ, ◌+◌, true, List, [], ◌∷◌, ◌++◌, length, Option, Some, None}
use Rattle.nook_data.specs.Types.{Clause, Context, Event, Fault, PartSpec, Step}
use Rattle.nook_data.specs.declared.limits.TheConstants.{MOST_FAULTS}
use Rattle.nook_data.specs.declared.scenario.FaultKind.TheVariants as fault
use Rattle.nook_data.specs.declared.steps.Step.TheVariants as step
use Rattle.machine_defs.specs.BurstFaults.{faults_of_burst}
use Rattle.part_defs.specs.Domain.{context_of, machine_of}
use Rattle.part_defs.specs.Runs.{event_of, state_after, step_of}
use Rattle.part_defs.specs.State.{PartState}
use Rattle.part_defs.specs.Steps.{enabled, opening, served_number}
use Rattle.promise_defs.specs.Contract.{Deed, Known, broken, known_after, known_first}
use Rattle.guard_defs.specs.Deeds.{deeds_before, deeds_in, first_clause}
use Rattle.guard_defs.specs.Turns.{turns_before}

-- The guard of a part: if a burst would break a clause, it runs with a trap before the instruction of the first
-- deed that breaks one.

-- a part with other faults
abbrev pub with_own : List Fault → PartState → PartState
with_own faults p = record p { spec = record p.spec { faults = faults } }

-- a part of a scenario with these faults added after its own
abbrev pub with_after : List Fault → PartSpec → PartSpec
with_after faults spec = record spec { faults = spec.faults ++ faults }

-- the number of instructions of a part's next burst in a context before that of a deed; 0 if nothing runs
abbrev pub turns_in : PartState → ℕ → Option Context → ℕ
turns_in p index None = 0
turns_in p index (Some x) =
    turns_before index p.domain.entries (faults_of_burst (p.bursts + 1) p.spec.faults) (machine_of x p.domain)

-- the trap before the first deed of a burst that breaks a clause
abbrev pub guard_trap : ℕ → PartState → Known → Fault
guard_trap context p k =
    let deeds : List Deed = deeds_in (event_of p (step.Burst context)) in record {
      burst = p.bursts + 1;
      after = turns_in p (deeds_before (served_number context p) k deeds) (context_of context p.domain.contexts);
      kind = fault.Trap;
    }

-- the clause that is reported for the trap
abbrev pub guard_clause : ℕ → PartState → Known → Option Clause
guard_clause context p k = first_clause (served_number context p) k (deeds_in (event_of p (step.Burst context)))

-- the trap, if some clauses would be broken
abbrev pub trap_for : List Clause → Fault → Option Fault
trap_for [] f = None
trap_for (clause ∷ more) f = Some f

-- the guard's trap of a step; only a burst can break a clause
abbrev pub guard : PartState → Known → Step → Option Fault
guard p k (step.Burst context) = trap_for (broken k (event_of p (step.Burst context))) (guard_trap context p k)
guard p k s = None

-- the trap of a step, if any, followed by those of later steps
abbrev pub with_first : Option Fault → List Fault → List Fault
with_first None traps = traps
with_first (Some f) traps = f ∷ traps

-- a part with a trap, if any, added after its own faults
abbrev pub with_trap : Option Fault → PartState → PartState
with_trap None p = p
with_trap (Some f) p = with_own (p.spec.faults ++ f ∷ []) p

-- the part that takes a step under the guard
unfoldable pub guarded : PartState → Known → Step → PartState
guarded p k s = with_trap (guard p k s) p

-- the events are those of a guarded run, from a part and what is known of it on: each is made by its step, which may be
-- taken, with the guard's trap
unfoldable pub IsGuardedFrom : PartState → Known → List Event → Type 0
IsGuardedFrom p k [] = Unit {0}
IsGuardedFrom p k (e ∷ events) =
    (enabled (guarded p k (step_of e)) (step_of e) ≡ true) × (event_of (guarded p k (step_of e)) (step_of e) ≡ e)
    × IsGuardedFrom (state_after (guarded p k (step_of e)) (step_of e)) (known_after k e) events

-- the guard's traps along the steps of events, in the order in which they are found
unfoldable pub traps_from : PartState → Known → List Event → List Fault
traps_from p k [] = []
traps_from p k (e ∷ events) = with_first (guard p k (step_of e))
    (traps_from (state_after (guarded p k (step_of e)) (step_of e)) (known_after k e) events)

-- the part after the guarded steps of events: its faults are its own and the traps
unfoldable pub guarded_from : PartState → Known → List Event → PartState
guarded_from p k [] = p
guarded_from p k (e ∷ events) =
    guarded_from (state_after (guarded p k (step_of e)) (step_of e)) (known_after k e) events

-- what is known of a part at first
abbrev pub known_at_first : PartSpec → Known
known_at_first spec = known_first spec.class spec.blocks

-- the journal is a guarded run of the part
abbrev pub IsGuardedRun : PartSpec → List Event → Type 0
IsGuardedRun spec journal = IsGuardedFrom (opening spec) (known_at_first spec) journal

-- the traps of a guarded run of a part
abbrev pub traps_of : PartSpec → List Event → List Fault
traps_of spec journal = traps_from (opening spec) (known_at_first spec) journal

-- a part's list of faults has room for the traps that its guarded run may need
abbrev pub HasRoom : PartSpec → Type 0
HasRoom spec = length spec.faults + (spec.limit + 1) ≤ MOST_FAULTS
