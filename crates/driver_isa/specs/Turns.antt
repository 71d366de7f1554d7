use Rattle.std.specs.Prelude.{◌≡◌, ◌++◌, ℕ, List, Option, None}
use Rattle.machine_defs.specs.Burst.{acts_of}
use Rattle.machine_defs.specs.Execution.{Machine, Executed}
use Rattle.nook_data.specs.declared.machine.Act.{Act}
use Rattle.nook_data.specs.declared.devices.DeviceState.{DeviceState}
use Rattle.nook_data.specs.declared.machine.BurstEnd.{BurstEnd}
use Rattle.nook_data.specs.declared.machine.Cpu.{Cpu}

-- the machine of a processor over a bus
abbrev pub machine_of : Cpu → List ℕ → DeviceState → Machine
machine_of cpu words device = record { cpu = cpu; memory = words; device = device }

-- an instruction without an act
abbrev pub quiet : Machine → Option BurstEnd → Executed
quiet machine crossing = record { machine = machine; act = None; crossing = crossing }

-- the result of an instruction is what it left: the machine, the acts and the crossing
pub record IsExecuted (turn : Executed) (left : Machine) (before after : List Act) (reported : Option BurstEnd) : Type 0 where
  pub machine : turn.machine ≡ left
  pub acts : after ≡ before ++ acts_of turn.act
  pub crossing : turn.crossing ≡ reported
