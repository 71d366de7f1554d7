use Rattle.std.proofs.Common.{◌≡◌, ◌+◌, ◌%◌, ◌^◌, ℕ, Bool, true, false, List, Option, Some, None, refl, sym, ◌∙◌, subst, append-nil}
use Rattle.driver_isa.specs.Turns.{IsExecuted, machine_of, quiet}
use Rattle.machine_defs.specs.Views.Ports.{IsTaken}
use Rattle.machine_defs.specs.Devices.{Taken}
use Rattle.machine_defs.specs.Execution.{Machine, Executed, advanced, executed, past_output, r, stores}
use Rattle.nook_data.specs.declared.machine.Act.{Act}
use Rattle.nook_data.specs.declared.devices.DeviceState.{DeviceState}
use Rattle.nook_data.specs.declared.entries.Entry.{Entry}
use Rattle.nook_data.specs.declared.machine.TrapCause.TheVariants as trap
use Rattle.nook_data.specs.declared.machine.BurstEnd.{BurstEnd}
use Rattle.nook_data.specs.declared.machine.BurstEnd.TheVariants as ends
use Rattle.nook_data.specs.declared.machine.Cpu.{Cpu}
use Rattle.nook_data.specs.declared.machine.Instr.TheVariants as instr

-- an instruction without an act leaves the acts unchanged
pub quiet_turn : (t : Executed) (left : Machine) (acts : List Act) (reported : Option BurstEnd) → t ≡ quiet left reported → IsExecuted t left acts acts reported
quiet_turn t left acts reported e = rw e (record { machine = refl; acts = sym (append-nil acts); crossing = refl })

-- a store at an address that is given separately
pub stored_turn : (entries : List Entry) (m left : Machine) (a b imm address : ℕ) (acts : List Act) (reported : Option BurstEnd)
    → address ≡ (r m b + imm) % 2 ^ 32 → stores entries m a address ≡ quiet left reported
    → IsExecuted (executed entries m (instr.St a b imm)) left acts acts reported
stored_turn entries m left a b imm address acts reported e h =
    quiet_turn (stores entries m a ((r m b + imm) % 2 ^ 32)) left acts reported
    (let P : ℕ → Type 0 = λ x. stores entries m a x ≡ quiet left reported in subst P e h)

-- an OUT at a port that exists
pub given_turn : (cpu cpu' : Cpu) (words words' : List ℕ) (old new : DeviceState) (before after : List Act) (port : ℕ)
    (taken : Option Taken) (allowed : Bool)
    → IsTaken taken allowed before after old new → allowed ≡ true → cpu' ≡ advanced cpu → words' ≡ words
    → IsExecuted (past_output (machine_of cpu words old) port taken) (machine_of cpu' words' new) before after None
given_turn cpu cpu' words words' old new before after port None allowed h t p w = absurd (let e : true ≡ false = sym t ∙ h.port in cc)
given_turn cpu cpu' words words' old new before after port (Some taken) allowed h t p w =
    rw (p, w, h.device) (record { machine = refl; acts = h.acts; crossing = refl })

-- an OUT at a port that does not exist
pub refused_turn : (cpu : Cpu) (words words' : List ℕ) (old new : DeviceState) (before after : List Act) (port : ℕ)
    (taken : Option Taken) (allowed : Bool)
    → IsTaken taken allowed before after old new → allowed ≡ false → words' ≡ words
    → IsExecuted (past_output (machine_of cpu words old) port taken) (machine_of cpu words' new) before after
    (Some (ends.Trap (trap.BadPort port)))
refused_turn cpu words words' old new before after port None allowed h t w =
    rw (w, h.device) (record { machine = refl; acts = h.acts; crossing = refl })
refused_turn cpu words words' old new before after port (Some taken) allowed h t w =
    absurd (let e : false ≡ true = sym t ∙ h.port in cc)
