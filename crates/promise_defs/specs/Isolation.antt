use Rattle.std.specs.Prelude.{◌≡◌, ◌⊎◌, ℕ, ◌≤◌, ◌==◌, ◌&&◌, ◌||◌, nat_lt, Bool, true, false, is_some, Some, None, List}
use Rattle.std.specs.Prelude.{[], ◌∷◌, ◌++◌, replicate, slice_index}
use Rattle.std.specs.List.{list_any}
use Rattle.nook_data.specs.Types.{Entry, Event, Fault, PartSpec}
use Rattle.nook_data.specs.declared.calls.Answer.TheVariants as answers
use Rattle.nook_data.specs.declared.steps.End.TheVariants as end
use Rattle.nook_data.specs.declared.steps.Event.TheVariants as event
use Rattle.nook_data.specs.declared.scenario.FaultKind.TheVariants as fault
use Rattle.nook_data.specs.declared.memory_map.TheConstants.{TEXT_WORDS}
use Rattle.nook_data.specs.Classes.{is_set}
use Rattle.part_defs.specs.Domain.{domain_burst}
use Rattle.machine_defs.specs.Entries.{is_borrow_of}
use Rattle.part_defs.specs.Log.{call_of_thread}
use Rattle.machine_defs.specs.Pages.{may_write, object_words}
use Rattle.part_defs.specs.Runs.{step_of, state_after}
use Rattle.part_defs.specs.State.{PartState}
use Rattle.part_defs.specs.Steps.{opening}
use Rattle.machine_defs.specs.BurstFaults.{faults_of_burst}

-- No driver changes a word that it may not write, nor a kernel object that is not lent to it.

-- a fault that writes the text word at the address
abbrev pub writes_code : ℕ → Fault → Bool
writes_code address f = elim f.kind [ (fault.Code a value) ↦ nat_lt a TEXT_WORDS && a == address | _ ↦ false ]

-- no word changes that the driver may not write, except text words that faults of the burst write
abbrev pub ChangesOnlyAllowed : List Entry → List Fault → List ℕ → List ℕ → Type 0
ChangesOnlyAllowed entries faults before after =
    (address : ℕ) → may_write entries address ≡ false → list_any (writes_code address) faults ≡ false
    → slice_index after address ≡ slice_index before address

-- a burst, up to its crossing, changes no word that its driver may not write, except text words that its faults write
abbrev pub KeepsWithin : PartState → Event → Type 0
KeepsWithin p (event.Burst context call number count e acts answer failure) =
    ChangesOnlyAllowed p.domain.entries (faults_of_burst number p.spec.faults) p.domain.memory
    (domain_burst context (faults_of_burst number p.spec.faults) p.domain).domain.memory
KeepsWithin p _ = Unit {0}

-- the 64 words of a part's kernel object
abbrev pub object_of : ℕ → PartState → List ℕ
object_of object p = object_words object p.domain.memory

-- the event is a served give_back of an object that moved these words
abbrev pub GivesBack : ℕ → List ℕ → Event → Type 0
GivesBack object words (event.Burst context call burst count e acts answer failure) = elim e [
  | (end.Service n first second result moved) ↦ (n ≡ 5) × (first ≡ object) × (is_some result ≡ true) × (moved ≡ words)
  | _ ↦ ⊥
]
GivesBack object words _ = ⊥

-- in a step, an object 1 to 12 stays the same, or it was lent and its copy is written back
abbrev pub KeepsObject : ℕ → PartState → Event → PartState → Type 0
KeepsObject object p e q = (object_of object q ≡ object_of object p)
    ⊎ ((list_any (is_borrow_of object) p.domain.entries ≡ true) × GivesBack object (object_of object q) e)

-- the event has one of the causes for a change of object 0: it answers a Set with Done, or has a failure
abbrev pub is_noted : PartState → Event → Bool
is_noted p (event.Burst context call burst count e acts answer failure) =
    is_some failure || elim answer [ (Some answers.Done) ↦ true | _ ↦ false ]
    && elim (call_of_thread context p.log.pending) [ (Some c) ↦ is_set c.op | None ↦ false ]
is_noted p _ = false

-- object 0 holds the record, the count of failures, and zeros
abbrev pub kernel_object : PartState → List ℕ
kernel_object p = p.log.config ++ (p.failures ∷ replicate 59 0)

-- the changes that a step may make
pub record IsIsolatedStep (p : PartState) (e : Event) (q : PartState) : Type 0 where
  -- an object 1 to 12 changes only if it was lent and its copy is written back
  pub objects : (object : ℕ) → 1 ≤ object → object ≤ 12 → KeepsObject object p e q
  -- object 0 changes only if a Set is answered Done or the event has a failure
  pub kernel : (object_of 0 q ≡ object_of 0 p) ⊎ (is_noted p e ≡ true)
  -- object 0 holds the record and the count of failures
  pub record_reported : object_of 0 q ≡ kernel_object q
  -- a burst writes only where its driver may write, apart from the code faults of that burst
  pub within : KeepsWithin p e

-- from a part on, each event changes only what it may
unfoldable pub IsIsolatedFrom : PartState → List Event → Type 0
IsIsolatedFrom p [] = Unit {0}
IsIsolatedFrom p (e ∷ events) =
    IsIsolatedStep p e (state_after p (step_of e)) × IsIsolatedFrom (state_after p (step_of e)) events

-- in a journal, bursts write only where their driver may; kernel objects change only if lent, or by the kernel
abbrev pub IsIsolated : PartSpec → List Event → Type 0
IsIsolated spec journal = IsIsolatedFrom (opening spec) journal
