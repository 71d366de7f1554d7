use Rattle.std.specs.Prelude.{◌≡◌, ℕ, ◌-◌, Bool, Option, Some, None, List, [], slice_get}
use Rattle.std.specs.List.{list_any}
use Rattle.guard_defs.specs.Every.{put_at}
use Rattle.machine_defs.specs.BurstFaults.{is_of_burst}
use Rattle.nook_data.specs.Types.{Context, Event, Fault, FaultKind, Instr, PartSpec, Scenario}
use Rattle.nook_data.specs.declared.limits.TheConstants.{MOST_INSTRUCTIONS}
use Rattle.nook_data.specs.declared.steps.Event.TheVariants as event
use Rattle.part_defs.specs.Domain.{context_of, machine_of}
use Rattle.part_defs.specs.State.{DomainState}
use Rattle.register_laws.specs.Alike.{AreAlike}
use Rattle.register_laws.specs.Uses.{instrs_from}
use Rattle.register_points.specs.Sources.{source_of}
use Rattle.register_points.specs.declared.sources.Source.{Source}
use Rattle.register_points.specs.declared.sources.Source.TheVariants as source
use Rattle.run_defs.specs.Simulation.{IsScheduledRun, RunningPart, Simulation}

-- The instructions of a burst in a scenario's run, and what they say of the members of a campaign.

-- there are faults of a burst
abbrev pub has_faults : ℕ → List Fault → Bool
has_faults burst faults = list_any (is_of_burst burst) faults

-- the instructions of what runs in a context, except the one that ends the burst
abbrev pub instrs_by : Context → DomainState → List (Option Instr)
instrs_by x d = instrs_from MOST_INSTRUCTIONS d.entries (machine_of x d) []

abbrev pub instrs_of_context : DomainState → Option Context → List (Option Instr)
instrs_of_context d None = []
instrs_of_context d (Some x) = instrs_by x d

-- the instructions of an event's burst, from the domain before it
abbrev pub instrs_found : DomainState → Event → List (Option Instr)
instrs_found d (event.Burst context call burst count e acts answer failure) = instrs_of_context d (context_of context d.contexts)
instrs_found d e = []

-- if the row of a fault's member is said to be the base's, the fault does nothing in the journal; if it is said to be
-- that of the same fault before the instruction before, both do the same
abbrev pub IsSound : PartSpec → List Event → ℕ → FaultKind → ℕ → Source → Type 0
IsSound spec journal burst kind after source.Run = Unit {0}
IsSound spec journal burst kind after source.Base = AreAlike (put_at burst after kind) None spec journal
IsSound spec journal burst kind after source.Before =
    AreAlike (put_at burst (after - 1) kind) (Some (put_at burst after kind)) spec journal

-- what these instructions say of a part's burst in the scheduled run of a scenario is right
abbrev pub AreKnown : Scenario → ℕ → ℕ → List (Option Instr) → Type 0
AreKnown scenario index burst instrs =
    (s : Simulation) (spec : PartSpec) (seat : RunningPart) → IsScheduledRun scenario s → slice_get scenario.parts index ≡ Some spec
    → slice_get s.parts index ≡ Some seat
    → (kind : FaultKind) (after : ℕ) → IsSound spec seat.run.journal burst kind after (source_of instrs kind after)
