use Rattle.std.specs.Prelude.{ℕ, Option, Some, None, List}
use Rattle.nook_data.specs.Types.{Clause, Context, Event, Fault}
use Rattle.nook_data.specs.declared.scenario.FaultKind.TheVariants as fault
use Rattle.nook_data.specs.declared.steps.Event.TheVariants as event
use Rattle.contract_monitor.specs.declared.wrong.WrongDeed.{WrongDeed}
use Rattle.guard_defs.specs.Turns.{turns_before}
use Rattle.machine_defs.specs.BurstFaults.{faults_of_burst}
use Rattle.part_defs.specs.Domain.{context_of, machine_of}
use Rattle.part_defs.specs.State.{DomainState}

-- Where a trap strikes, by the domain before the burst and the faults of the part.

-- the number of instructions in a burst before the one of a deed; 0 if nothing runs
abbrev pub turns_by : ℕ → List Fault → DomainState → Option Context → ℕ
turns_by index faults d None = 0
turns_by index faults d (Some x) = turns_before index d.entries faults (machine_of x d)

-- the trap before the instruction of an event's wrong deed, with the broken clause; only bursts have deeds
abbrev pub stop_before : WrongDeed → Event → List Fault → DomainState → Option (Fault × Clause)
stop_before wrong (event.Burst context call burst count e done a failure) faults d = Some (
  record {
    burst = burst;
    after = turns_by wrong.index (faults_of_burst burst faults) d (context_of context d.contexts);
    kind = fault.Trap;
  },
  wrong.clause,
)
stop_before wrong e faults d = None
