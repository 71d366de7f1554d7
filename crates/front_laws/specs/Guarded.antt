use Rattle.std.specs.Prelude.{◌≡◌, ◌≤◌, ◌<◌, ℕ, suc, ◌+◌, None, Some, List, [], ◌∷◌, ◌++◌, take, length, filter, fold}
use Rattle.nook_data.specs.Types.{Act, Clause, Event, PartSpec}
use Rattle.nook_data.specs.Clauses.{all_clauses, clause_number}
use Rattle.nook_data.specs.declared.limits.TheConstants.{MOST_INSTRUCTIONS}
use Rattle.nook_data.specs.declared.machine.TrapCause.TheVariants as trap
use Rattle.nook_data.specs.declared.steps.End.TheVariants as end
use Rattle.nook_data.specs.declared.steps.Event.TheVariants as event
use Rattle.nook_data.specs.declared.steps.FailCause.TheVariants as fail
use Rattle.nook_data.specs.declared.steps.Step.TheVariants as step
use Rattle.guard_defs.specs.Deeds.{deeds_before, deeds_in, first_clause}
use Rattle.guard_defs.specs.Guard.{guard_trap, guarded, guarded_from, known_at_first, traps_of, with_after}
use Rattle.part_defs.specs.Runs.{IsRun, event_of, state_of}
use Rattle.part_defs.specs.State.{PartState}
use Rattle.part_defs.specs.Steps.{opening, served_number}
use Rattle.part_laws.specs.Bound.{failures_of}
use Rattle.promise_defs.specs.Contract.{Deed, Known, after_deed, broken, first_break, is_broken_by, known_after}

-- What the guard changes in a burst, and in a part's run.

-- the acts of an event: only bursts have any
abbrev pub acts_in : Event → List Act
acts_in (event.Burst context call burst count e done a failure) = done
acts_in e = []

-- the clauses that deeds break, in the order of their numbers
abbrev pub broken_by : ℕ → Known → List Deed → List Clause
broken_by call k ds = filter (λ clause. is_broken_by clause call k ds) all_clauses

-- the part, and what is known of it, after a guarded run
abbrev pub guarded_at : PartSpec → List Event → PartState
guarded_at spec journal = guarded_from (opening spec) (known_at_first spec) journal

-- what is known after a journal
abbrev pub known_at : PartSpec → List Event → Known
known_at spec journal = fold known_after (known_at_first spec) journal

-- a burst under the guard that would break a clause without it: it keeps the acts before the first deed that does, the
-- rest does not happen, nothing is answered, and the driver fails by an injected trap; no clause is broken. A burst can
-- reach the position of the trap
pub record IsStopped (context : ℕ) (p : PartState) (k : Known) : Type 0 where
  pub made : event_of (guarded p k (step.Burst context)) (step.Burst context)
      ≡ event.Burst context (served_number context p) (p.bursts + 1) (guard_trap context p k).after end.Trap
      (take (deeds_before (served_number context p) k (deeds_in (event_of p (step.Burst context))))
      (acts_in (event_of p (step.Burst context))))
      None (Some (fail.Trap trap.Injected))
  pub kept : broken k (event_of (guarded p k (step.Burst context)) (step.Burst context)) ≡ []
  pub within : (guard_trap context p k).after < MOST_INSTRUCTIONS

-- a guarded run is a run of the part with the traps after its own faults, and it breaks no clause; each trap is a
-- failure, so there are at most as many as the limit allows
pub record IsGuardedWell (spec : PartSpec) (journal : List Event) : Type 0 where
  pub run : IsRun (with_after (traps_of spec journal) spec) journal
  pub state : state_of (with_after (traps_of spec journal) spec) journal
      ≡ guarded_from (opening spec) (known_at_first spec) journal
  pub kept : first_break spec.class spec.blocks journal ≡ None
  pub failing : length (traps_of spec journal) ≤ failures_of journal
  pub few : length (traps_of spec journal) ≤ spec.limit + 1

-- the first deed of a list that breaks a clause: the deeds before it, itself, and those after it; the clause reported
-- is the first of those that it breaks after the deeds before it, in the order of their numbers
pub record IsFirstWrong (call : ℕ) (k : Known) (deeds : List Deed) : Type 0 where
  pub wrong : Deed
  pub later : List Deed
  pub clause : Clause
  pub more : List Clause
  pub splits : deeds ≡ take (deeds_before call k deeds) deeds ++ wrong ∷ later
  pub reported : first_clause call k deeds ≡ Some clause
  pub first_broken : broken_by call (fold (after_deed call) k (take (deeds_before call k deeds) deeds)) (wrong ∷ [])
      ≡ clause ∷ more

-- a guarded run, followed by a burst of a context without the guard
abbrev pub unguarded : PartSpec → List Event → ℕ → List Event
unguarded spec front context = front ++ event_of (guarded_at spec front) (step.Burst context) ∷ []

-- without the guard's trap at a burst and the later traps, that burst is the run's first break
pub record IsNeeded (spec : PartSpec) (front : List Event) (context : ℕ) (clause : Clause) : Type 0 where
  pub run : IsRun (with_after (traps_of spec front) spec) (unguarded spec front context)
  pub breaks_there : first_break spec.class spec.blocks (unguarded spec front context)
      ≡ Some (record { event = suc (length front); clause = clause_number clause })
