use Rattle.std.specs.Prelude.{◌≡◌, ℕ, ◌+◌, ◌≤◌, ◌<◌, true, false, None, List, [], ◌∷◌, length}
use Rattle.std.specs.List.{AllByRecursion}
use Rattle.nook_data.specs.declared.calls.CallEntry.{CallEntry}
use Rattle.nook_data.specs.declared.classes.Class.{Class}
use Rattle.nook_data.specs.declared.entries.Entry.{Entry}
use Rattle.nook_data.specs.declared.entries.Entry.TheVariants as entry
use Rattle.nook_data.specs.declared.scenario.PartSpec.{PartSpec}
use Rattle.nook_data.specs.declared.limits.TheConstants.{CONTEXTS, MOST_THREADS, SHADOW}
use Rattle.nook_data.specs.declared.memory_map.TheConstants.{DATA_END, DATA_WORDS, LAST_OBJECT, MEMORY_WORDS}
use Rattle.nook_data.specs.declared.memory_map.TheConstants.{OBJECT_WORDS, TEXT_WORDS}
use Rattle.nook_data.specs.Classes.{static_check, defaults_of}
use Rattle.part_defs.specs.Crossing.{heap_start}
use Rattle.machine_defs.specs.Entries.{comes_before, is_registration}
use Rattle.promise_defs.specs.Isolation.{object_of, kernel_object}
use Rattle.part_defs.specs.State.{DomainState, CallLog, PartState}

-- The invariant of parts, which every step keeps.

-- the image of a part fits its memory
pub record IsFitSpec (spec : PartSpec) : Type 0 where
  pub text : length spec.image.text ≤ TEXT_WORDS
  pub initial : length spec.image.initial ≤ DATA_WORDS

-- an entry lies in the heap, which begins at `heap`, and belongs to a kernel object or a context
abbrev pub IsFitEntry : ℕ → Entry → Type 0
IsFitEntry heap (entry.Heap start len) = (heap ≤ start) × (start + len ≤ DATA_END)
IsFitEntry heap (entry.Borrow object start) =
    (1 ≤ object) × (object ≤ LAST_OBJECT) × (heap ≤ start) × (start + OBJECT_WORDS ≤ DATA_END)
IsFitEntry heap (entry.Buffer context writable) = context ≤ SHADOW
IsFitEntry heap (entry.Registration live) = Unit {0}

-- the entries are in Collect's order, with the single registration last
abbrev pub IsOrdered : List Entry → Type 0
IsOrdered [] = ⊥
IsOrdered (e ∷ []) = is_registration e ≡ true
IsOrdered (e ∷ x ∷ entries) = (is_registration e ≡ false) × (comes_before x e ≡ false) × IsOrdered (x ∷ entries)

pub record IsFitDomain (heap : ℕ) (d : DomainState) : Type 0 where
  pub memory : length d.memory ≡ MEMORY_WORDS
  pub contexts : length d.contexts ≡ CONTEXTS
  pub entries : AllByRecursion (IsFitEntry heap) d.entries
  pub ordered : IsOrdered d.entries

-- an open call belongs to one of 16 threads, and its operation passed the static check
pub record IsFitCall (class : Class) (blocks : ℕ) (c : CallEntry) : Type 0 where
  pub thread : c.thread < MOST_THREADS
  pub checked : static_check class blocks c.op ≡ None

pub record IsFitLog (class : Class) (blocks : ℕ) (log : CallLog) : Type 0 where
  pub config : length log.config ≡ 4
  pub defaults : log.defaults ≡ defaults_of class
  pub calls : AllByRecursion (IsFitCall class blocks) log.pending

-- the invariant of parts; object 0 is the record, the count of failures, and zeros
pub record IsFit (p : PartState) : Type 0 where
  pub spec : IsFitSpec p.spec
  pub domain : IsFitDomain (heap_start p) p.domain
  pub log : IsFitLog p.spec.class p.spec.blocks p.log
  pub reported : object_of 0 p ≡ kernel_object p
