use Rattle.std.specs.Prelude.{ℕ, List, Bool, true, false, Option, None, Some}
use Rattle.driver_isa.specs.declared.turn.InstructionResult.{InstructionResult}
use Rattle.driver_isa.specs.declared.turn.InstructionResult.TheVariants as step
use Rattle.machine_defs.specs.Execution.{next_counter}
use Rattle.nook_data.specs.declared.machine.BurstEnd.{BurstEnd}
use Rattle.nook_data.specs.declared.machine.Cpu.{Cpu}

-- a processor with this counter and these registers
abbrev pub cpu_of : ℕ → List ℕ → Cpu
cpu_of counter registers = record { counter = counter; registers = registers }

-- the counter after an instruction at a counter
abbrev pub next_of : ℕ → InstructionResult → ℕ
next_of counter step.Next = next_counter counter
next_of counter step.Acted = next_counter counter
next_of counter (step.To target) = target
next_of counter (step.Ended last end) = last

-- the crossing of an instruction, if it is one
abbrev pub crossing_of : InstructionResult → Option BurstEnd
crossing_of step.Next = None
crossing_of step.Acted = None
crossing_of (step.To target) = None
crossing_of (step.Ended last end) = Some end

-- whether an instruction does no act and does not cross
abbrev pub is_quiet : InstructionResult → Bool
is_quiet step.Next = true
is_quiet step.Acted = false
is_quiet (step.To target) = true
is_quiet (step.Ended last end) = false
