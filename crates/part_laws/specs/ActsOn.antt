use Rattle.std.specs.Prelude.{◌≡◌, ◌<◌, ℕ, Bool, true, false, List, [], ◌∷◌, drop, length, slice_index, slice_set}
use Rattle.nook_data.specs.declared.machine.Act.{Act}
use Rattle.nook_data.specs.declared.machine.Act.TheVariants as act
use Rattle.nook_data.specs.declared.devices.DeviceKind.{DeviceKind}
use Rattle.nook_data.specs.declared.devices.DeviceKind.TheVariants as kind
use Rattle.nook_data.specs.declared.devices.DeviceState.{DeviceState}
use Rattle.machine_defs.specs.Devices.{medium_of, ring_of}

-- What the acts of a burst show of its device.

-- a link, which receives frames
abbrev pub is_link : DeviceKind → Bool
is_link (kind.Disk k) = false
is_link (kind.Link k) = true
is_link kind.Speaker = false

-- what acts show of a device: whether it is a link, a disk's medium, a link's ring, and the registers
pub record Dev : Type 0 where
  pub linked : Bool
  pub medium : List (List ℕ)
  pub ring : List (List ℕ)
  pub registers : List ℕ

-- the same of a device
abbrev pub dev_of : DeviceState → Dev
dev_of d = record { linked = is_link d.kind; medium = medium_of d; ring = ring_of d; registers = d.registers }

-- what an act does to a device
abbrev pub act_on : Act → Dev → Dev
act_on (act.Load block) d = d
act_on (act.Store block words) d = record d { medium = slice_set d.medium block words }
act_on (act.Failed block store) d = d
act_on (act.Sent frame) d = d
act_on (act.Popped frame) d = record d { ring = drop 1 d.ring }
act_on (act.Played sample rate volume) d = d
act_on (act.Register key value) d = record d { registers = slice_set d.registers key value }

-- what acts in order do to a device
abbrev pub acts_on : List Act → Dev → Dev
acts_on [] d = d
acts_on (a ∷ acts) d = acts_on acts (act_on a d)

-- the device may do the act: a command names a block, a popped frame is the first of the ring, a sample is played at
-- the rate and volume of the registers, and a register is one of four
abbrev pub Fits : Act → Dev → Type 0
Fits (act.Load block) d = block < length d.medium
Fits (act.Store block words) d = block < length d.medium
Fits (act.Failed block store) d = block < length d.medium
Fits (act.Sent frame) d = Unit {0}
Fits (act.Popped frame) d = (rest : List (List ℕ)) × (d.ring ≡ frame ∷ rest)
Fits (act.Played sample rate volume) d = (slice_index d.registers 0 ≡ rate) × (slice_index d.registers 1 ≡ volume)
Fits (act.Register key value) d = key < 4

-- the device may do each act in the state that the acts before it leave
abbrev pub ActsFit : List Act → Dev → Type 0
ActsFit [] d = Unit {0}
ActsFit (a ∷ acts) d = Fits a d × ActsFit acts (act_on a d)

-- the acts in order turn the device before into the device after, and each act fits
pub record Reports (before : Dev) (after : Dev) (acts : List Act) : Type 0 where
  pub made : after ≡ acts_on acts before
  pub fit : ActsFit acts before
