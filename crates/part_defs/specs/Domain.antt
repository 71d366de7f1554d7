use Rattle.std.specs.Prelude.{ℕ, ◌+◌, ◌/◌, Bool, true, false, Option, Some, None, List, [], ◌∷◌, ◌++◌, length}
use Rattle.std.specs.Prelude.{option_map, replicate, slice_get, slice_index, slice_range, slice_set, unwrap_or}
use Rattle.nook_data.specs.Types.{Act, BurstEnd, Context, Cpu, Entry, Fault, Image, Op, PartSpec}
use Rattle.nook_data.specs.declared.entries.Entry.TheVariants as entry
use Rattle.nook_data.specs.declared.calls.Op.TheVariants as op
use Rattle.nook_data.specs.declared.limits.TheConstants.{BLOCK_WORDS, CONTEXTS}
use Rattle.nook_data.specs.declared.memory_map.TheConstants.{BUFFER_WORDS}
use Rattle.nook_data.specs.declared.machine.BurstEnd.TheVariants as ends
use Rattle.machine_defs.specs.Burst.{Burst, burst}
use Rattle.nook_data.specs.Classes.{defaults_of}
use Rattle.machine_defs.specs.Devices.{opening_device}
use Rattle.machine_defs.specs.Entries.{opening_entries, with_entry, without_buffer, registered, collected}
use Rattle.nook_data.specs.Layout.{buffer_start, stack_end, object_start}
use Rattle.machine_defs.specs.Pages.{opening_memory, loaded_memory, padded_words}
use Rattle.machine_defs.specs.Pages.{with_words}
use Rattle.part_defs.specs.State.{DomainState}
use Rattle.machine_defs.specs.Execution.{Machine}

-- the initial domain
unfoldable pub opening_domain : PartSpec → DomainState
opening_domain spec = record {
  starts = spec.image.entries;
  memory = opening_memory (defaults_of spec.class);
  entries = opening_entries;
  device = opening_device spec.class spec.blocks spec.bad (defaults_of spec.class);
  contexts = replicate CONTEXTS None;
}

-- registers r1, r2 and r3 at an entry; r3 has the address of a lent buffer
pub record Arguments : Type 0 where
  pub first : ℕ
  pub second : ℕ
  pub third : ℕ

-- three arguments
abbrev pub three : ℕ → ℕ → ℕ → Arguments
three first second third = record { first = first; second = second; third = third }

-- the arguments of an operation in the registers of its context
abbrev pub arguments_of : ℕ → Op → Arguments
arguments_of context (op.Read first count) = three first count (buffer_start context)
arguments_of context (op.Write first words) = three first (length words / BLOCK_WORDS) (buffer_start context)
arguments_of context (op.Send frame) = three 0 (length frame) (buffer_start context)
arguments_of context (op.Play samples) = three 0 (length samples) (buffer_start context)
arguments_of context (op.Get key) = three key 0 (buffer_start context)
arguments_of context (op.Set key value) = three key value 0
arguments_of context _ = three 0 0 0

-- the initial words of a lent buffer, and whether the driver may write them
pub record Lent : Type 0 where
  pub writable : Bool
  pub words : List ℕ

-- words that are lent in the buffer of a context, writable by the driver or not
abbrev pub lent : Bool → List ℕ → Option Lent
lent writable words = Some (record { writable = writable; words = words })

-- the buffer that an operation lends, if any
abbrev pub buffer_of : Op → Option Lent
buffer_of (op.Read first count) = lent true []
buffer_of (op.Write first words) = lent false words
buffer_of (op.Send frame) = lent false frame
buffer_of (op.Play samples) = lent false samples
buffer_of (op.Get key) = lent true []
buffer_of _ = None

-- a context at the start of an entry: r14 is the end of its stack; the registers after the arguments are zero
abbrev pub entry_context : ℕ → ℕ → Arguments → Context
entry_context start context a =
    let registers : List ℕ = 0 ∷ a.first ∷ a.second ∷ a.third ∷ (replicate 10 0 ++ stack_end context ∷ 0 ∷ []) in
    record { cpu = record { counter = start; registers = registers }; bursts = 0 }

-- the buffer's two pages hold the words, followed by zeros
abbrev pub lent_memory : ℕ → Option Lent → List ℕ → List ℕ
lent_memory context None memory = memory
lent_memory context (Some l) memory = with_words (buffer_start context) (padded_words BUFFER_WORDS l.words) memory

-- the entries with the lent buffer, if any
abbrev pub lent_entries : ℕ → Option Lent → List Entry → List Entry
lent_entries context None entries = entries
lent_entries context (Some l) entries = with_entry (entry.Buffer context l.writable) entries

-- the context enters the entry with an index, for an operation
unfoldable pub entered_domain : ℕ → ℕ → Op → DomainState → DomainState
entered_domain context index o d = record d {
  memory = lent_memory context (buffer_of o) d.memory;
  entries = lent_entries context (buffer_of o) d.entries;
  contexts = slice_set d.contexts context
      (Some (entry_context (slice_index d.starts index) context (arguments_of context o)));
}

-- the context enters the entry with an index, without arguments
unfoldable pub plainly_entered : ℕ → ℕ → DomainState → DomainState
plainly_entered context index d =
    let entered : Context = entry_context (slice_index d.starts index) context (three 0 0 0) in
    record d { contexts = slice_set d.contexts context (Some entered) }

-- what runs in a context
abbrev pub context_of : ℕ → List (Option Context) → Option Context
context_of context contexts = unwrap_or (slice_get contexts context) None

-- the results of a burst of a context
pub record DomainBurst : Type 0 where
  pub domain : DomainState
  pub count : ℕ
  pub ending : BurstEnd
  pub acts : List Act

-- the machine of a context: its registers and counter, with the memory and the device of the domain
abbrev pub machine_of : Context → DomainState → Machine
machine_of x d = record { cpu = x.cpu; memory = d.memory; device = d.device }

-- the domain after a burst of a context, whose attempt has one more burst
abbrev pub after_burst : ℕ → Context → Burst → DomainState → DomainBurst
after_burst context x b d = record {
  domain = record d {
    memory = b.machine.memory;
    device = b.machine.device;
    contexts = slice_set d.contexts context (Some (record { cpu = b.machine.cpu; bursts = x.bursts + 1 }));
  };
  count = b.count;
  ending = b.ending;
  acts = b.acts;
}

-- one burst of a context that is Inside, with the faults of the burst. If nothing runs in the context, no burst may be
-- taken, so the Pause after 0 instructions never occurs in an event
unfoldable pub domain_burst : ℕ → List Fault → DomainState → DomainBurst
domain_burst context faults d = elim (context_of context d.contexts) [
  | None ↦ record { domain = d; count = 0; ending = ends.Pause; acts = [] }
  | Some x ↦ after_burst context x (burst d.entries faults (machine_of x d)) d
]

-- a register of what runs in a context; 0 if nothing runs
abbrev pub register_of : ℕ → Option Context → ℕ
register_of number o = elim o [ None ↦ 0 | Some x ↦ slice_index x.cpu.registers number ]

-- the first argument that a driver passes to a kernel call
abbrev pub first_argument : ℕ → DomainState → ℕ
first_argument context d = register_of 1 (context_of context d.contexts)

-- the second argument that a driver passes to a kernel call
abbrev pub second_argument : ℕ → DomainState → ℕ
second_argument context d = register_of 2 (context_of context d.contexts)

-- the number of bursts of a context's attempt so far; 0 if nothing runs
abbrev pub attempt_bursts : ℕ → DomainState → ℕ
attempt_bursts context d = elim (context_of context d.contexts) [ None ↦ 0 | Some x ↦ x.bursts ]

-- a kernel call's result goes into r1 of what runs in the context
unfoldable pub result_set : ℕ → ℕ → DomainState → DomainState
result_set context word d =
    let set : Cpu → Cpu = λ cpu. record cpu { registers = slice_set cpu.registers 1 word } in
    let with_set : Context → Context = λ x. record x { cpu = set x.cpu } in
    record d { contexts = slice_set d.contexts context (option_map with_set (context_of context d.contexts)) }

-- the context is free, and its buffer is no longer lent
unfoldable pub left_domain : ℕ → DomainState → DomainState
left_domain context d =
    record d { entries = without_buffer context d.entries; contexts = slice_set d.contexts context None }

-- every context is free, and the driver is not registered
unfoldable pub stopped_domain : DomainState → DomainState
stopped_domain d = record d { entries = registered false d.entries; contexts = replicate CONTEXTS None }

-- everything except the registration is released
unfoldable pub collected_domain : DomainState → DomainState
collected_domain d = record d { entries = collected d.entries }

-- the image is loaded
unfoldable pub loaded_domain : Image → DomainState → DomainState
loaded_domain image d = record d { memory = loaded_memory image d.memory }

-- the kernel writes a word of object 0
unfoldable pub noted : ℕ → ℕ → DomainState → DomainState
noted word value d = record d { memory = slice_set d.memory (object_start 0 + word) value }

-- the first words of a context's buffer
abbrev pub buffer_words : ℕ → ℕ → DomainState → List ℕ
buffer_words context count d = slice_range d.memory (buffer_start context) (buffer_start context + count)
