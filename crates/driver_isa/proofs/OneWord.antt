-- An instruction changes at most one word of memory: only a store changes memory.
use Rattle.std.proofs.Common.{◌≡◌, ◌+◌, ◌%◌, ◌^◌, ℕ, Bool, true, false, List, [], ◌∷◌, ◌++◌, replicate, Option, Some, None, inl, inr, refl, slice_set, if◌then◌else◌}
use Rattle.driver_isa.specs.OneWord.{ChangesOneWord, before_store}
use Rattle.machine_defs.specs.Devices.{Given, Taken, input_of, output_of}
use Rattle.machine_defs.specs.Machine.{decode_of}
use Rattle.machine_defs.specs.Pages.{fetch_word, may_write, read_word}
use Rattle.machine_defs.specs.Execution.{Machine, Executed, advanced, executed, goes, past_input, past_output, puts, r, trapped, turn}
use Rattle.nook_data.specs.declared.devices.DeviceState.{DeviceState}
use Rattle.nook_data.specs.declared.entries.Entry.{Entry}
use Rattle.nook_data.specs.declared.machine.Instr.{Instr}
use Rattle.nook_data.specs.declared.machine.Instr.TheVariants as instr
use Rattle.nook_data.specs.declared.machine.TrapCause.TheVariants as trap

abbrev Keeps : List Entry → Machine → Executed → Type 0
Keeps entries m t = ChangesOneWord entries m.memory t.machine.memory

load_keeps : (entries : List Entry) (m : Machine) (a address : ℕ) (word : Option ℕ)
    → Keeps entries m (elim word [ None ↦ trapped m (trap.BadRead address) | Some w ↦ puts m a w ])
load_keeps entries m a address None = inl refl
load_keeps entries m a address (Some w) = inl refl

store_keeps : (entries : List Entry) (m : Machine) (a address : ℕ) (allowed : Bool) → may_write entries address ≡ allowed
    → Keeps entries m (if allowed then goes (record m { cpu = advanced m.cpu; memory = slice_set m.memory address (r m a) })
    else trapped m (trap.ForeignWrite address))
store_keeps entries m a address true e = inr (record { address = address; word = r m a; allowed = e; stored = refl })
store_keeps entries m a address false e = inl refl

input_keeps : (entries : List Entry) (m : Machine) (a port : ℕ) (given : Option Given) → Keeps entries m (past_input m a port given)
input_keeps entries m a port None = inl refl
input_keeps entries m a port (Some given) = inl refl

output_keeps : (entries : List Entry) (m : Machine) (port : ℕ) (taken : Option Taken) → Keeps entries m (past_output m port taken)
output_keeps entries m port None = inl refl
output_keeps entries m port (Some taken) = inl refl

executed_keeps : (entries : List Entry) (m : Machine) (i : Instr) → Keeps entries m (executed entries m i)
executed_keeps entries m (instr.Li a imm) = inl refl
executed_keeps entries m (instr.Lui a imm) = inl refl
executed_keeps entries m (instr.Mov a b) = inl refl
executed_keeps entries m (instr.Add a b) = inl refl
executed_keeps entries m (instr.Sub a b) = inl refl
executed_keeps entries m (instr.And a b) = inl refl
executed_keeps entries m (instr.Or a b) = inl refl
executed_keeps entries m (instr.Xor a b) = inl refl
executed_keeps entries m (instr.Shl a b) = inl refl
executed_keeps entries m (instr.Shr a b) = inl refl
executed_keeps entries m (instr.Addi a b imm) = inl refl
executed_keeps entries m (instr.Ld a b imm) =
    load_keeps entries m a ((r m b + imm) % 2 ^ 32) (read_word m.memory ((r m b + imm) % 2 ^ 32))
executed_keeps entries m (instr.St a b imm) =
    store_keeps entries m a ((r m b + imm) % 2 ^ 32) (may_write entries ((r m b + imm) % 2 ^ 32)) refl
executed_keeps entries m (instr.Jmp imm) = inl refl
executed_keeps entries m (instr.Beq a b imm) = inl refl
executed_keeps entries m (instr.Bne a b imm) = inl refl
executed_keeps entries m (instr.Blt a b imm) = inl refl
executed_keeps entries m (instr.Jal a imm) = inl refl
executed_keeps entries m (instr.Jr a) = inl refl
executed_keeps entries m (instr.In a imm) = input_keeps entries m a imm (input_of imm m.device)
executed_keeps entries m (instr.Out a imm) = output_keeps entries m imm (output_of imm (r m a) m.device)
executed_keeps entries m (instr.Kcall imm) = inl refl
executed_keeps entries m (instr.Ret a) = inl refl
executed_keeps entries m instr.Fault = inl refl

decoded_keeps : (entries : List Entry) (m : Machine) (i : Option Instr)
    → Keeps entries m (elim i [ None ↦ trapped m trap.BadOpcode | Some i ↦ executed entries m i ])
decoded_keeps entries m None = inl refl
decoded_keeps entries m (Some i) = executed_keeps entries m i

fetched_keeps : (entries : List Entry) (m : Machine) (word : Option ℕ)
    → Keeps entries m (elim word [
      | None ↦ trapped m trap.BadFetch
      | Some word ↦ elim (decode_of word) [ None ↦ trapped m trap.BadOpcode | Some i ↦ executed entries m i ]
    ])
fetched_keeps entries m None = inl refl
fetched_keeps entries m (Some word) = decoded_keeps entries m (decode_of word)

pub turn_changes : (entries : List Entry) (m : Machine) → ChangesOneWord entries m.memory (turn entries m).machine.memory
unfolding turn
turn_changes entries m = fetched_keeps entries m (fetch_word m.memory m.cpu.counter)

pub store_after : (device : DeviceState) → (turn [] (before_store device 2048)).machine.memory ≡ 0x0d120000 ∷ (replicate 2047 0 ++ 7 ∷ [])
unfolding turn
store_after device = refl

pub store_inside : (device : DeviceState) → (turn [] (before_store device 2047)).machine.memory ≡ 0x0d120000 ∷ replicate 2048 0
unfolding turn
store_inside device = refl
