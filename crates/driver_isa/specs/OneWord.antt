-- What an instruction may do to memory.
use Rattle.std.specs.Prelude.{◌≡◌, ◌⊎◌, ℕ, true, List, ◌∷◌, replicate, slice_set}
use Rattle.machine_defs.specs.Pages.{may_write}
use Rattle.machine_defs.specs.Execution.{Machine}
use Rattle.nook_data.specs.declared.devices.DeviceState.{DeviceState}
use Rattle.nook_data.specs.declared.entries.Entry.{Entry}

-- one word of memory is stored, at an address that the driver may write
pub record StoresWord (entries : List Entry) (before after : List ℕ) : Type 0 where
  pub address : ℕ
  pub word : ℕ
  pub allowed : may_write entries address ≡ true
  pub stored : after ≡ slice_set before address word

-- memory is unchanged, except for at most one word that the driver may write
abbrev pub ChangesOneWord : List Entry → List ℕ → List ℕ → Type 0
ChangesOneWord entries before after = (after ≡ before) ⊎ StoresWord entries before after

-- a machine before the instruction ST r1, r2, 0: register 1 holds 7, register 2 the address
abbrev pub before_store : DeviceState → ℕ → Machine
before_store device address = record {
  cpu = record { counter = 0; registers = 0 ∷ 7 ∷ address ∷ replicate 13 0 };
  memory = 0x0d120000 ∷ replicate 2048 0;
  device = device;
}
