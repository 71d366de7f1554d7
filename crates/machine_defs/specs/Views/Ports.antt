use Rattle.std.specs.Prelude.{◌≡◌, ◌++◌, ℕ, Bool, List, Option, Some, None, is_some}
use Rattle.machine_defs.specs.Burst.{acts_of}
use Rattle.nook_data.specs.Classes.{defaults_of}
use Rattle.machine_defs.specs.Devices.{Given, Taken}
use Rattle.nook_data.specs.Types.{Act, Class, DeviceKind, DeviceState}
use Rattle.nook_data.specs.declared.classes.Class.TheVariants as class
use Rattle.nook_data.specs.declared.devices.DeviceKind.TheVariants as kind

-- How code that accesses a device's ports relates to the definition of the ports.

-- the result of an IN that returned this word, if any, and left this device
abbrev pub given_by : Option ℕ → DeviceState → Option Given
given_by None device = None
given_by (Some word) device = Some (record { word = word; device = device })

-- the device after an IN; it is unchanged if there is no such port
abbrev pub device_given : Option Given → DeviceState → DeviceState
device_given None device = device
device_given (Some given) device = given.device

-- the device after an OUT; it is unchanged if there is no such port
abbrev pub device_after : Option Taken → DeviceState → DeviceState
device_after None device = device
device_after (Some taken) device = taken.device

-- the act of an OUT
abbrev pub act_of : Option Taken → Option Act
act_of None = None
act_of (Some taken) = taken.act

-- how an OUT relates the state before it to the state after it: whether there is such a port, the acts, the device
pub record IsTaken (taken : Option Taken) (allowed : Bool) (before after : List Act)
    (old new : DeviceState) : Type 0 where
  pub port : allowed ≡ is_some taken
  pub acts : after ≡ before ++ acts_of (act_of taken)
  pub device : new ≡ device_after taken old

-- the class whose device has this kind
abbrev pub class_of_kind : DeviceKind → Class
class_of_kind (kind.Disk k) = class.Block
class_of_kind (kind.Link k) = class.Net
class_of_kind kind.Speaker = class.Sound

-- the class of a device
abbrev pub class_of : DeviceState → Class
class_of d = class_of_kind d.kind

-- the values of a device's registers after a reset
abbrev pub defaults_for : DeviceState → List ℕ
defaults_for d = defaults_of (class_of d)

-- a device of a kind, with its registers
abbrev pub device_of : List ℕ → DeviceKind → DeviceState
device_of registers k = record { registers = registers; kind = k }
