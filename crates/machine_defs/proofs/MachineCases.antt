-- Parts of the definitions under separate names, for laws that split an Option, a Result or a kind into cases. The
-- definitions contain the same parts inline.
use Rattle.std.specs.Prelude.{ℕ, ◌==◌, ◌&&◌, nat_lt, Bool, false, if◌then◌else◌}
use Rattle.std.specs.Prelude.{Option, Some, None, List, [], ◌∷◌, ◌++◌}
use Rattle.nook_data.specs.Types.{DeviceKind, DeviceState}
use Rattle.nook_data.specs.Types.{Entry}
use Rattle.nook_data.specs.Types.{Fault, FaultKind, Instr, TrapCause}
use Rattle.nook_data.specs.declared.devices.DeviceKind.TheVariants as kind
use Rattle.nook_data.specs.declared.entries.Entry.TheVariants as entry
use Rattle.nook_data.specs.declared.machine.TrapCause.TheVariants as trap
use Rattle.nook_data.specs.declared.memory_map.TheConstants.{TEXT_WORDS}
use Rattle.nook_data.specs.declared.scenario.FaultKind.TheVariants as fault
use Rattle.machine_defs.specs.Burst.{Struck}
use Rattle.machine_defs.specs.Devices.{Given, disk_input, is_below_most, link_input}
use Rattle.machine_defs.specs.Execution.{Machine, Executed, executed, puts, trapped}
use Rattle.machine_defs.specs.Machine.{decode_of}

-- a fault writes the text word at the address
abbrev pub is_code_at : ℕ → FaultKind → Bool
is_code_at address (fault.Code a value) = nat_lt a TEXT_WORDS && a == address
is_code_at address _ = false

-- the start of the copy of a kernel object; other entries have none
abbrev pub start_of_borrow : Entry → ℕ
start_of_borrow (entry.Borrow object start) = start
start_of_borrow _ = 0

-- the frames in the ring
abbrev pub ring_of_kind : DeviceKind → List (List ℕ)
ring_of_kind (kind.Link k) = k.ring
ring_of_kind _ = []

-- a disk's blocks
abbrev pub medium_of_kind : DeviceKind → List (List ℕ)
medium_of_kind (kind.Disk k) = k.medium
medium_of_kind _ = []

-- a frame arrives in the ring
abbrev pub kind_with_arrival : List ℕ → DeviceKind → DeviceKind
kind_with_arrival frame (kind.Link k) =
    kind.Link (record k { ring = if is_below_most k.ring then k.ring ++ frame ∷ [] else k.ring })
kind_with_arrival frame other = other

-- what IN returns at a port of the class
abbrev pub kind_input : ℕ → DeviceState → DeviceKind → Option Given
kind_input port d (kind.Disk k) = disk_input port d k
kind_input port d (kind.Link k) = link_input port d k
kind_input port d kind.Speaker = None

-- the entry lends the buffer of the context for writing
abbrev pub lends : ℕ → Entry → Bool
lends context (entry.Buffer c writable) = c == context && writable
lends context _ = false

-- after a read: the word goes into a register, or the instruction traps if there is none
abbrev pub past_read : Machine → ℕ → ℕ → Option ℕ → Executed
past_read m a address None = trapped m (trap.BadRead address)
past_read m a address (Some word) = puts m a word

-- after decoding: the instruction is executed, or it traps if there is none
abbrev pub past_decode : List Entry → Machine → Option Instr → Executed
past_decode entries m None = trapped m trap.BadOpcode
past_decode entries m (Some i) = executed entries m i

-- after the fetch: the word of text is decoded, or the instruction traps if there is none
abbrev pub past_fetch : List Entry → Machine → Option ℕ → Executed
past_fetch entries m None = trapped m trap.BadFetch
past_fetch entries m (Some word) = past_decode entries m (decode_of word)

-- a fault that is a trap stops the later ones before the same instruction
abbrev pub past_trap : Struck → Machine → List Fault → Option TrapCause → Struck
past_trap more m rest None = more
past_trap more m rest (Some cause) = record { machine = m; rest = rest; stopped = Some cause }
