use Rattle.std.specs.Prelude.{ℕ, zero, suc, ◌-◌, ◌==◌, nat_le, nat_lt, if◌then◌else◌, true, false, Option, Some, None}
use Rattle.std.specs.Prelude.{List, [], ◌∷◌, ◌++◌, length, slice_set}
use Rattle.nook_data.specs.Types.{Act, BurstEnd, Entry, Fault, FaultKind, TrapCause}
use Rattle.nook_data.specs.declared.scenario.FaultKind.TheVariants as fault
use Rattle.nook_data.specs.declared.machine.TrapCause.TheVariants as trap
use Rattle.nook_data.specs.declared.limits.TheConstants.{MOST_ACTS, MOST_INSTRUCTIONS}
use Rattle.nook_data.specs.declared.memory_map.TheConstants.{TEXT_WORDS}
use Rattle.nook_data.specs.declared.machine.BurstEnd.TheVariants as ends
use Rattle.machine_defs.specs.Pages.{written}
use Rattle.machine_defs.specs.Execution.{Machine, Executed, turn}

-- a burst: the machine after it, its acts in order, the number of its instructions, and how it ended
pub record Burst : Type 0 where
  pub machine : Machine
  pub acts : List Act
  pub count : ℕ
  pub ending : BurstEnd

-- a burst that ended
abbrev pub ended : ℕ → Machine → List Act → BurstEnd → Burst
ended count m acts ending = record { machine = m; acts = acts; count = count; ending = ending }

-- after the faults before one instruction: the machine, the remaining faults, and the trap if one of them was a trap
pub record Struck : Type 0 where
  pub machine : Machine
  pub rest : List Fault
  pub stopped : Option TrapCause

-- a fault's change of memory: a poke only where the driver may write, a code fault only in the text
abbrev pub struck_memory : List Entry → FaultKind → List ℕ → List ℕ
struck_memory entries (fault.Poke address value) memory = written entries address value memory
struck_memory entries (fault.Code address value) memory =
    if nat_lt address TEXT_WORDS then slice_set memory address value else memory
struck_memory entries _ memory = memory

-- a fault's change of the registers
abbrev pub struck_registers : FaultKind → List ℕ → List ℕ
struck_registers (fault.Reg register value) registers =
    if nat_lt register 16 then slice_set registers register value else registers
struck_registers _ registers = registers

-- the trap that a fault causes, if any
abbrev pub trap_of : FaultKind → Option TrapCause
trap_of k = elim k [ fault.Trap ↦ Some trap.Injected | fault.Hang ↦ Some trap.Hang | _ ↦ None ]

-- the machine after a fault struck
abbrev pub struck_machine : List Entry → FaultKind → Machine → Machine
struck_machine entries k m = record m {
  cpu = record m.cpu { registers = struck_registers k m.cpu.registers };
  memory = struck_memory entries k m.memory;
}

-- the faults before one instruction strike in order; one that is a trap stops the later ones
abbrev pub strikes_at : ℕ → List Entry → List Fault → Machine → Struck
strikes_at index entries [] m = record { machine = m; rest = []; stopped = None }
strikes_at index entries (f ∷ faults) m = elim (f.after == index) [
  | true ↦ elim (trap_of f.kind) [
    | None ↦ strikes_at index entries faults (struck_machine entries f.kind m)
    | Some cause ↦ record { machine = m; rest = faults; stopped = Some cause }
  ]
  | false ↦ record { machine = m; rest = f ∷ faults; stopped = None }
]

-- an injected hang counts as a whole burst, an injected trap as the instructions before it
abbrev pub count_at : ℕ → TrapCause → ℕ
count_at count cause = elim cause [ trap.Hang ↦ MOST_INSTRUCTIONS | _ ↦ count ]

-- the act of an instruction, if it does one
abbrev pub acts_of : Option Act → List Act
acts_of act = elim act [ None ↦ [] | Some done ↦ done ∷ [] ]

-- after an instruction, the burst continues with the machine, the remaining faults and the acts so far; or it is over
pub data Going : Type 0 where
  on : Machine → List Fault → List Act → Going
  over : Burst → Going

-- adds the act of an instruction: a crossing or the 64th act ends the burst; otherwise it continues
abbrev pub after_turn : ℕ → List Fault → List Act → Executed → Going
after_turn count rest acts t =
    let acts' : List Act = acts ++ acts_of t.act in
    elim t.crossing [
      | Some crossing ↦ over (ended count t.machine acts' crossing)
      | None ↦ if nat_le MOST_ACTS (length acts') then over (ended count t.machine acts' ends.Pause)
          else on t.machine rest acts'
    ]

-- one instruction, with this many left after it: a trap among the faults before it ends the burst; otherwise it runs
abbrev pub one_turn : ℕ → List Entry → List Fault → Machine → List Act → Going
one_turn left entries faults m acts =
    let index : ℕ = MOST_INSTRUCTIONS - suc left in
    let struck : Struck = strikes_at index entries faults m in
    elim struck.stopped [
      | Some cause ↦ over (ended (count_at index cause) struck.machine acts (ends.Trap cause))
      | None ↦ after_turn (MOST_INSTRUCTIONS - left) struck.rest acts (turn entries struck.machine)
    ]

-- a burst with this many instructions left: it runs them until it is over; a burst without a crossing is a hang
unfoldable pub burst_from : ℕ → List Entry → List Fault → Machine → List Act → Burst
burst_from zero entries faults m acts = ended MOST_INSTRUCTIONS m acts (ends.Trap trap.Hang)
burst_from (suc left) entries faults m acts = elim (one_turn left entries faults m acts) [
  | on m' rest acts' ↦ burst_from left entries rest m' acts'
  | over b ↦ b
]

-- one burst up to its crossing; its faults are in the order of the instructions before which they strike
unfoldable pub burst : List Entry → List Fault → Machine → Burst
burst entries faults m = burst_from MOST_INSTRUCTIONS entries faults m []
