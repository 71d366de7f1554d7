-- A device keeps its class, whatever its driver does at its ports in a burst.
use Rattle.std.proofs.Common.{◌≡◌, ℕ, ◌+◌, ◌%◌, ◌^◌, ◌==◌, ◌&&◌, Bool, true, false, Option, Some, None, List, if◌then◌else◌, nat_le, nat_lt, not, refl, ◌∙◌}
use Rattle.nook_data.specs.declared.classes.Class.{Class}
use Rattle.nook_data.specs.declared.devices.DeviceKind.{DeviceKind}
use Rattle.nook_data.specs.declared.devices.DeviceKind.TheVariants as kind
use Rattle.nook_data.specs.declared.devices.DeviceState.{DeviceState}
use Rattle.nook_data.specs.declared.entries.Entry.{Entry}
use Rattle.nook_data.specs.declared.scenario.Fault.{Fault}
use Rattle.nook_data.specs.declared.machine.Instr.{Instr}
use Rattle.nook_data.specs.declared.machine.Instr.TheVariants as instr
use Rattle.machine_defs.specs.Burst.{burst}
use Rattle.machine_defs.specs.Devices.{Given, Taken, input_of, is_command, is_register_port, kind_output, output_of}
use Rattle.nook_data.specs.Frames.{is_empty}
use Rattle.machine_defs.proofs.MachineCases.{kind_input, past_decode, past_fetch, past_read}
use Rattle.machine_defs.specs.Machine.{decode_of}
use Rattle.machine_defs.specs.Pages.{may_write, read_word, fetch_word}
use Rattle.machine_defs.specs.Views.Ports.{class_of, class_of_kind, device_after, device_given, device_of}
use Rattle.machine_defs.specs.Execution.{Machine, Executed, turn, executed, past_input, past_output, stores, r}
use Rattle.machine_defs.proofs.DeviceClasses.{input_keeps_class, output_keeps_class}
use Rattle.machine_defs.proofs.BurstKeeps.{split, every_fault, burst_keeps}

-- an instruction

abbrev KeepsClass : Machine → Executed → Type 0
KeepsClass m t = class_of t.machine.device ≡ class_of m.device

past_read_keeps : (m : Machine) (a address : ℕ) (o : Option ℕ) → KeepsClass m (past_read m a address o)
past_read_keeps m a address None = refl
past_read_keeps m a address (Some word) = refl

past_input_keeps : (m : Machine) (a port : ℕ) (o : Option Given) → class_of (device_given o m.device) ≡ class_of m.device
    → KeepsClass m (past_input m a port o)
past_input_keeps m a port None h = refl
past_input_keeps m a port (Some given) h = h

past_output_keeps : (m : Machine) (port : ℕ) (o : Option Taken) → class_of (device_after o m.device) ≡ class_of m.device
    → KeepsClass m (past_output m port o)
past_output_keeps m port None h = refl
past_output_keeps m port (Some taken) h = h

stores_keeps : (entries : List Entry) (m : Machine) (a address : ℕ) → KeepsClass m (stores entries m a address)
stores_keeps entries m a address = split (may_write entries address)
    (λ e. rw e refl)
    (λ e. rw e refl)

executed_keeps : (entries : List Entry) (m : Machine) (i : Instr) → KeepsClass m (executed entries m i)
executed_keeps entries m (instr.Ld a b imm) = past_read_keeps m a ((r m b + imm) % 2 ^ 32) (read_word m.memory ((r m b + imm) % 2 ^ 32))
executed_keeps entries m (instr.St a b imm) = stores_keeps entries m a ((r m b + imm) % 2 ^ 32)
executed_keeps entries m (instr.In a imm) = past_input_keeps m a imm (input_of imm m.device) (input_keeps_class imm m.device)
executed_keeps entries m (instr.Out a imm) = past_output_keeps m imm (output_of imm (r m a) m.device) (output_keeps_class imm (r m a) m.device)
executed_keeps entries m _ = refl

past_decode_keeps : (entries : List Entry) (m : Machine) (o : Option Instr) → KeepsClass m (past_decode entries m o)
past_decode_keeps entries m None = refl
past_decode_keeps entries m (Some i) = executed_keeps entries m i

past_fetch_keeps : (entries : List Entry) (m : Machine) (o : Option ℕ) → KeepsClass m (past_fetch entries m o)
past_fetch_keeps entries m None = refl
past_fetch_keeps entries m (Some word) = past_decode_keeps entries m (decode_of word)

-- after an instruction the device is still of its class
pub turn_keeps_class : (entries : List Entry) (m : Machine) → class_of (turn entries m).machine.device ≡ class_of m.device
unfolding turn
turn_keeps_class entries m = past_fetch_keeps entries m (fetch_word m.memory m.cpu.counter)

-- after a burst the device is still of its class
pub burst_keeps_class : (entries : List Entry) (faults : List Fault) (m : Machine)
    → class_of (burst entries faults m).machine.device ≡ class_of m.device
burst_keeps_class entries faults m =
    burst_keeps (λ m' acts. class_of m'.device ≡ class_of m.device) (λ f. Unit {0}) entries
    (λ m' acts k. turn_keeps_class entries m' ∙ k)
    (λ f m' acts c k. k)
    faults m (every_fault faults) refl
