use Rattle.std.specs.Prelude.{ℕ, ◌+◌, ◌-◌, ◌*◌, ◌/◌, ◌%◌, ◌^◌, ◌==◌, nat_lt, not, if◌then◌else◌, Bool, Option, Some}
use Rattle.std.specs.Prelude.{None, List, slice_index, slice_set, bit_and, bit_or, bit_xor}
use Rattle.nook_data.specs.Types.{Act, BurstEnd, Cpu, DeviceState, Entry, Instr, TrapCause}
use Rattle.nook_data.specs.declared.machine.TrapCause.TheVariants as trap
use Rattle.nook_data.specs.declared.machine.BurstEnd.TheVariants as ends
use Rattle.nook_data.specs.declared.machine.Instr.TheVariants as instr
use Rattle.machine_defs.specs.Devices.{Given, Taken, input_of, output_of}
use Rattle.machine_defs.specs.Machine.{decode_of}
use Rattle.machine_defs.specs.Pages.{may_write, read_word, fetch_word}

-- the machine that a driver program runs on
pub record Machine : Type 0 where
  pub cpu : Cpu
  pub memory : List ℕ
  pub device : DeviceState

-- the result of one instruction: the machine after it, its device act, and the crossing if it is one
pub record Executed : Type 0 where
  pub machine : Machine
  pub act : Option Act
  pub crossing : Option BurstEnd

-- the value of register a
abbrev pub r : Machine → ℕ → ℕ
r m a = slice_index m.cpu.registers a

-- the next counter
abbrev pub next_counter : ℕ → ℕ
next_counter counter = (counter + 1) % 2 ^ 32

-- the processor advances to the next word
abbrev pub advanced : Cpu → Cpu
advanced cpu = record cpu { counter = next_counter cpu.counter }

-- the processor advances, and register a becomes v
abbrev pub with_register : Cpu → ℕ → ℕ → Cpu
with_register cpu a v = record { counter = next_counter cpu.counter; registers = slice_set cpu.registers a v }

-- an instruction without an act or a crossing
abbrev pub goes : Machine → Executed
goes m = record { machine = m; act = None; crossing = None }

-- an instruction that traps changes nothing
abbrev pub trapped : Machine → TrapCause → Executed
trapped m cause = record { machine = m; act = None; crossing = Some (ends.Trap cause) }

-- register a becomes v
abbrev pub puts : Machine → ℕ → ℕ → Executed
puts m a v = goes (record m { cpu = with_register m.cpu a v })

-- the counter becomes the target if the test holds, else the next one
abbrev pub jumps : Machine → Bool → ℕ → Executed
jumps m test target =
    goes (record m { cpu = record m.cpu { counter = if test then target else next_counter m.cpu.counter } })

-- the processor advances, and the crossing is reported
abbrev pub crosses : Machine → BurstEnd → Executed
crosses m crossing = record { machine = record m { cpu = advanced m.cpu }; act = None; crossing = Some crossing }

-- the word at an address is loaded into register a; an address outside memory traps
abbrev pub loads : Machine → ℕ → ℕ → Executed
loads m a address =
    elim (read_word m.memory address) [ None ↦ trapped m (trap.BadRead address) | Some word ↦ puts m a word ]

-- register a is stored at an address if the driver may write there; otherwise it traps
abbrev pub stores : List Entry → Machine → ℕ → ℕ → Executed
stores entries m a address = if may_write entries address
    then goes (record m { cpu = advanced m.cpu; memory = slice_set m.memory address (r m a) })
    else trapped m (trap.ForeignWrite address)

-- a word from a port goes into a register; a port that does not exist traps
abbrev pub past_input : Machine → ℕ → ℕ → Option Given → Executed
past_input m a port None = trapped m (trap.BadPort port)
past_input m a port (Some given) = goes (record m { cpu = with_register m.cpu a given.word; device = given.device })

-- a word goes to a port; a port that does not exist traps
abbrev pub past_output : Machine → ℕ → Option Taken → Executed
past_output m port None = trapped m (trap.BadPort port)
past_output m port (Some taken) = record {
  machine = record m { cpu = advanced m.cpu; device = taken.device };
  act = taken.act;
  crossing = None;
}

-- the instruction table: what each instruction does
abbrev pub executed : List Entry → Machine → Instr → Executed
executed entries m (instr.Li a imm) = puts m a imm
executed entries m (instr.Lui a imm) = puts m a (imm * 2 ^ 16 + r m a % 2 ^ 16)
executed entries m (instr.Mov a b) = puts m a (r m b)
executed entries m (instr.Add a b) = puts m a ((r m a + r m b) % 2 ^ 32)
executed entries m (instr.Sub a b) = puts m a ((r m a + (2 ^ 32 - r m b)) % 2 ^ 32)
executed entries m (instr.And a b) = puts m a (bit_and (r m a) (r m b))
executed entries m (instr.Or a b) = puts m a (bit_or (r m a) (r m b))
executed entries m (instr.Xor a b) = puts m a (bit_xor (r m a) (r m b))
executed entries m (instr.Shl a b) = puts m a (r m a * 2 ^ (r m b % 32) % 2 ^ 32)
executed entries m (instr.Shr a b) = puts m a (r m a / 2 ^ (r m b % 32))
executed entries m (instr.Addi a b imm) = puts m a ((r m b + imm) % 2 ^ 32)
executed entries m (instr.Ld a b imm) = loads m a ((r m b + imm) % 2 ^ 32)
executed entries m (instr.St a b imm) = stores entries m a ((r m b + imm) % 2 ^ 32)
executed entries m (instr.Jmp imm) = goes (record m { cpu = record m.cpu { counter = imm } })
executed entries m (instr.Beq a b imm) = jumps m (r m a == r m b) imm
executed entries m (instr.Bne a b imm) = jumps m (not (r m a == r m b)) imm
executed entries m (instr.Blt a b imm) = jumps m (nat_lt (r m a) (r m b)) imm
executed entries m (instr.Jal a imm) =
    let registers : List ℕ = slice_set m.cpu.registers a (next_counter m.cpu.counter) in
    goes (record m { cpu = record { counter = imm; registers = registers } })
executed entries m (instr.Jr a) = goes (record m { cpu = record m.cpu { counter = r m a } })
executed entries m (instr.In a imm) = past_input m a imm (input_of imm m.device)
executed entries m (instr.Out a imm) = past_output m imm (output_of imm (r m a) m.device)
executed entries m (instr.Kcall imm) = crosses m (ends.Kcall imm)
executed entries m (instr.Ret a) = crosses m (ends.Reply (r m a))
executed entries m instr.Fault = trapped m trap.Explicit

-- executes one instruction: the word at the counter is fetched, decoded and executed; it traps if a step fails
unfoldable pub turn : List Entry → Machine → Executed
turn entries m = elim (fetch_word m.memory m.cpu.counter) [
  | None ↦ trapped m trap.BadFetch
  | Some word ↦ elim (decode_of word) [ None ↦ trapped m trap.BadOpcode | Some i ↦ executed entries m i ]
]
