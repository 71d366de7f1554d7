use Rattle.std.specs.Prelude.{ℕ, zero, suc, Option, Some, None, List, [], ◌∷◌}
use Rattle.nook_data.specs.Types.{Act, Entry, Fault, Instr}
use Rattle.nook_data.specs.declared.scenario.FaultKind.TheVariants as fault
use Rattle.guard_defs.specs.Every.{put_at}
use Rattle.machine_defs.specs.Burst.{on, over, one_turn}
use Rattle.machine_defs.specs.Execution.{Machine}
use Rattle.machine_defs.specs.Machine.{decode_of}
use Rattle.machine_defs.specs.Pages.{fetch_word}

-- The faults that set a register, and the instructions of a burst.

-- the fault that sets a register in a burst, before an instruction
abbrev pub reg_at : ℕ → ℕ → ℕ → ℕ → Fault
reg_at burst r v after = put_at burst after (fault.Reg r v)

-- the instruction at a machine's counter, if it can be fetched and decoded
abbrev pub instr_in : Option ℕ → Option Instr
instr_in None = None
instr_in (Some word) = decode_of word

abbrev pub instr_at : Machine → Option Instr
instr_at m = instr_in (fetch_word m.memory m.cpu.counter)

-- the instructions of a burst without faults after which it continues, with this many instructions left
unfoldable pub instrs_from : ℕ → List Entry → Machine → List Act → List (Option Instr)
instrs_from zero entries m acts = []
instrs_from (suc left) entries m acts = elim (one_turn left entries [] m acts) [
  | on m' rest acts' ↦ instr_at m ∷ instrs_from left entries m' acts'
  | over b ↦ []
]
