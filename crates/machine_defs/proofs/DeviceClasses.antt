-- A device keeps its class, whatever its driver does at its ports.
use Rattle.std.proofs.Common.{◌≡◌, ℕ, ◌==◌, ◌&&◌, Bool, true, false, Option, List, if◌then◌else◌, nat_le, nat_lt, not, refl}
use Rattle.nook_data.specs.declared.classes.Class.{Class}
use Rattle.nook_data.specs.declared.devices.DeviceKind.{DeviceKind}
use Rattle.nook_data.specs.declared.devices.DeviceKind.TheVariants as kind
use Rattle.nook_data.specs.declared.devices.DeviceState.{DeviceState}
use Rattle.machine_defs.specs.Devices.{Given, Taken, input_of, is_command, is_register_port, kind_output, output_of}
use Rattle.nook_data.specs.Frames.{is_empty}
use Rattle.machine_defs.proofs.MachineCases.{kind_input}
use Rattle.machine_defs.specs.Views.Ports.{class_of, class_of_kind, device_after, device_given, device_of}

given_by_choice : (c : Class) (d : DeviceState) (test : Bool) (x y : Option Given) →
    class_of (device_given x d) ≡ c → class_of (device_given y d) ≡ c → class_of (device_given (if test then x else y) d) ≡ c
given_by_choice c d true x y p q = p
given_by_choice c d false x y p q = q

taken_by_choice : (c : Class) (d : DeviceState) (test : Bool) (x y : Option Taken) →
    class_of (device_after x d) ≡ c → class_of (device_after y d) ≡ c → class_of (device_after (if test then x else y) d) ≡ c
taken_by_choice c d true x y p q = p
taken_by_choice c d false x y p q = q

kind_input_keeps_class : (port : ℕ) (registers : List ℕ) (k : DeviceKind) →
    class_of (device_given (kind_input port (device_of registers k) k) (device_of registers k)) ≡ class_of_kind k
kind_input_keeps_class port registers (kind.Disk k) =
    given_by_choice _ _ (port == 1) _ _ refl (given_by_choice _ _ (port == 2) _ _ refl (given_by_choice _ _ (port == 3) _ _ refl refl))
kind_input_keeps_class port registers (kind.Link k) =
    given_by_choice _ _ (port == 1) _ _ refl (given_by_choice _ _ (port == 3) _ _ refl (given_by_choice _ _ (port == 4) _ _ refl refl))
kind_input_keeps_class port registers kind.Speaker = refl

kind_output_keeps_class : (port word : ℕ) (registers : List ℕ) (k : DeviceKind) →
    class_of (device_after (kind_output port word (device_of registers k) k) (device_of registers k)) ≡ class_of_kind k
kind_output_keeps_class port word registers (kind.Disk k) =
    taken_by_choice _ _ (port == 0) _ _ (taken_by_choice _ _ (is_command word k) _ _ refl refl)
    (taken_by_choice _ _ (port == 1) _ _ refl (taken_by_choice _ _ (port == 2) _ _ refl refl))
kind_output_keeps_class port word registers (kind.Link k) =
    taken_by_choice _ _ (port == 0) _ _
    (taken_by_choice _ _ (word == 1 && (nat_le 1 k.length && nat_le k.length 64)) _ _ refl
    (taken_by_choice _ _ (word == 2 && not (is_empty k.ring)) _ _ refl refl))
    (taken_by_choice _ _ (port == 1) _ _ refl
    (taken_by_choice _ _ (port == 2) _ _ (taken_by_choice _ _ (nat_lt k.position 64) _ _ refl refl) refl))
kind_output_keeps_class port word registers kind.Speaker = taken_by_choice _ _ (port == 0) _ _ refl refl

-- after an IN the device is still of its class
pub input_keeps_class : (port : ℕ) (d : DeviceState) → class_of (device_given (input_of port d) d) ≡ class_of d
input_keeps_class port d =
    given_by_choice _ _ (is_register_port port) _ _ refl (kind_input_keeps_class port d.registers d.kind)

-- after an OUT the device is still of its class
pub output_keeps_class : (port word : ℕ) (d : DeviceState) → class_of (device_after (output_of port word d) d) ≡ class_of d
output_keeps_class port word d =
    taken_by_choice _ _ (is_register_port port) _ _ refl (kind_output_keeps_class port word d.registers d.kind)
