use Rattle.std.specs.Prelude.{◌≡◌, ℕ, true, Option, Some, None, List, fold}
use Rattle.nook_data.specs.Types.{Class, Clause, Event, Fault}
use Rattle.nook_data.specs.declared.steps.Step.TheVariants as step
use Rattle.contract_monitor.specs.Monitors.{Monitored, Represents}
use Rattle.guard_defs.specs.Guard.{guard, guard_clause}
use Rattle.part_defs.specs.Runs.{event_of}
use Rattle.part_defs.specs.State.{DomainState, PartState}
use Rattle.part_defs.specs.Steps.{enabled}
use Rattle.promise_defs.specs.Contract.{Known, first_break, known_after, known_first}

-- The guard's trap of a burst, as it is found.

-- the trap and the clause of a context's burst, by the part and what is known of it
abbrev pub IsStop : ℕ → PartState → Known → Option (Fault × Clause) → Type 0
IsStop context p k None = guard p k (step.Burst context) ≡ None
IsStop context p k (Some stop) = (guard p k (step.Burst context) ≡ Some stop.0) × (guard_clause context p k ≡ Some stop.1)

-- this holds for each part with this domain and these faults whose next burst this is, if its journal breaks no clause
-- and the monitor represents the journal
abbrev pub StopsBurst : DomainState → Event → List Fault → Monitored → Option (Fault × Clause) → Type 0
StopsBurst domain event faults monitor stop = (p : PartState) (context : ℕ) (class : Class) (size : ℕ) (journal : List Event)
    → p.domain ≡ domain → p.spec.faults ≡ faults → enabled p (step.Burst context) ≡ true
    → event ≡ event_of p (step.Burst context)
    → Represents class size journal monitor → first_break class size journal ≡ None
    → IsStop context p (fold known_after (known_first class size) journal) stop
