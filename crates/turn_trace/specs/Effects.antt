use Rattle.std.specs.Prelude.{ℕ, nat_lt, if◌then◌else◌, Bool, true, false, Option, Some, None, List, [], ◌∷◌, slice_set}
use Rattle.driver_isa.specs.Faults.{is_refused}
use Rattle.machine_defs.specs.Execution.{Machine}
use Rattle.nook_data.specs.declared.entries.Entry.{Entry}
use Rattle.nook_data.specs.declared.scenario.FaultKind.{FaultKind}
use Rattle.nook_data.specs.declared.scenario.FaultKind.TheVariants as fault
use Rattle.turn_trace.specs.Bursts.{TracedStep, strike, taken}
use Rattle.turn_trace.specs.declared.traced.TracedTurn.{TracedTurn}

-- What the lines of a trace do to registers and memory, for one who has only the lines.

pub record Words : Type 0 where
  pub registers : List ℕ
  pub memory : List ℕ

-- the registers and the memory of a machine
abbrev pub words_of : Machine → Words
words_of m = record { registers = m.cpu.registers; memory = m.memory }

-- an index gets the word that a line shows for it, if it shows one
abbrev pub with_shown : Option (ℕ × ℕ) → List ℕ → List ℕ
with_shown None words = words
with_shown (Some shown) words = slice_set words shown.0 shown.1

-- the line of an instruction
abbrev pub after_line : TracedTurn → Words → Words
after_line t w = record { registers = with_shown t.set w.registers; memory = with_shown t.stored w.memory }

-- an address gets a fault's word, unless its line says that the fault was refused
abbrev pub with_fault : Bool → ℕ → ℕ → Words → Words
with_fault true address word w = w
with_fault false address word w = record w { memory = slice_set w.memory address word }

-- the line of a fault; there are 16 registers
abbrev pub after_fault : List Entry → FaultKind → Words → Words
after_fault entries (fault.Poke address word) w = with_fault (is_refused entries (fault.Poke address word)) address word w
after_fault entries (fault.Code address word) w = with_fault (is_refused entries (fault.Code address word)) address word w
after_fault entries (fault.Reg register word) w =
    record w { registers = if nat_lt register 16 then slice_set w.registers register word else w.registers }
after_fault entries kind w = w

-- the line of a step
abbrev pub after_step : List Entry → TracedStep → Words → Words
after_step entries (strike f) w = after_fault entries f.kind w
after_step entries (taken t) w = after_line t w

-- the lines of some steps, one after another
abbrev pub after_steps : List Entry → List TracedStep → Words → Words
after_steps entries [] w = w
after_steps entries (step ∷ steps) w = after_steps entries steps (after_step entries step w)
