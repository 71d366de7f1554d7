use Rattle.std.specs.Prelude.{ℕ, ◌+◌, ◌%◌, ◌^◌, ◌==◌, if◌then◌else◌, Option, Some, None, List, slice_index}
use Rattle.nook_data.specs.declared.machine.Act.{Act}
use Rattle.nook_data.specs.declared.machine.BurstEnd.{BurstEnd}
use Rattle.nook_data.specs.declared.machine.Cpu.{Cpu}
use Rattle.nook_data.specs.declared.machine.Instr.{Instr}
use Rattle.nook_data.specs.declared.machine.Instr.TheVariants as instr
use Rattle.machine_defs.specs.Burst.{acts_of}
use Rattle.machine_defs.specs.Machine.{decode_of}
use Rattle.machine_defs.specs.Mnemonics.{target_of}
use Rattle.machine_defs.specs.Pages.{fetch_word}
use Rattle.machine_defs.specs.Execution.{Machine, Executed}
use Rattle.turn_trace.specs.declared.traced.TracedTurn.{TracedTurn}

-- One instruction: what was fetched, and its visible effects.

-- the instruction of a word that was fetched
abbrev pub instr_in : Option ℕ → Option Instr
instr_in None = None
instr_in (Some word) = decode_of word

-- a register with its word
abbrev pub with_word : Cpu → Option ℕ → Option (ℕ × ℕ)
with_word cpu None = None
with_word cpu (Some a) = Some (a, slice_index cpu.registers a)

-- the register that an instruction sets, and its word after the instruction
abbrev pub set_by : Cpu → Option Instr → Option (ℕ × ℕ)
set_by after None = None
set_by after (Some i) = with_word after (target_of i)

-- the address that an instruction stores to, and the word, from the registers before the instruction
abbrev pub store_of : Cpu → Instr → Option (ℕ × ℕ)
store_of before (instr.St a b imm) =
    Some ((slice_index before.registers b + imm) % 2 ^ 32, slice_index before.registers a)
store_of before _ = None

abbrev pub stored_by : Cpu → Option Instr → Option (ℕ × ℕ)
stored_by before None = None
stored_by before (Some i) = store_of before i

-- the counter after the instruction, if it is not the next one
abbrev pub jumped_to : ℕ → ℕ → Option ℕ
jumped_to before after = if after == before + 1 then None else Some after

-- an instruction that is a crossing, by a trap, a kernel call or a reply, shows no effect
abbrev pub unless_crossed : {T : Type 0} → Option BurstEnd → Option T → Option T
unless_crossed None effect = effect
unless_crossed (Some crossing) effect = None

-- the trace of an instruction: its number, the word that it fetched, the processor before and after it, its act, and
-- whether it was a crossing
abbrev pub traced_of : ℕ → Option ℕ → Cpu → Cpu → List Act → Option BurstEnd → TracedTurn
traced_of number word before after acts crossing = record {
  number = number;
  counter = before.counter;
  word = word;
  set = unless_crossed crossing (set_by after (instr_in word));
  stored = unless_crossed crossing (stored_by before (instr_in word));
  jumped = unless_crossed crossing (jumped_to before.counter after.counter);
  acts = acts;
}

-- the trace of a machine's instruction
abbrev pub traced : ℕ → Machine → Executed → TracedTurn
traced number m t =
    traced_of number (fetch_word m.memory m.cpu.counter) m.cpu t.machine.cpu (acts_of t.act) t.crossing
