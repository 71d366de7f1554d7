use Rattle.std.specs.Prelude.{◌≡◌, ℕ, ◌+◌, Bool, List, Option, length}
use Rattle.nook_data.specs.declared.classes.Class.{Class}
use Rattle.nook_data.specs.declared.devices.DeviceState.{DeviceState}
use Rattle.nook_data.specs.declared.entries.Entry.{Entry}
use Rattle.nook_data.specs.declared.scenario.PartSpec.{PartSpec}
use Rattle.nook_data.specs.declared.machine.Service.{Service}
use Rattle.nook_data.specs.declared.memory_map.TheConstants.{DATA_START}
use Rattle.part_defs.specs.Domain.{opening_domain}
use Rattle.machine_defs.specs.Views.PageMap.{lent_contexts}
use Rattle.machine_defs.specs.Views.Ports.{class_of}
use Rattle.machine_defs.specs.Services.{Served, served}
use Rattle.part_defs.specs.State.{DomainState}

-- what contracts see of a domain: its part of the state, and what never changes: where the heap begins, and
-- the class
pub record DomainView : Type 0 where
  pub state : DomainState
  pub heap_start : ℕ
  pub class : Class

-- a domain at first: the heap begins after the image's initial words
abbrev pub opening_view : PartSpec → DomainView
opening_view spec = record {
  state = opening_domain spec;
  heap_start = DATA_START + length spec.image.initial;
  class = spec.class;
}

-- the page map lends for writing the buffers that the entries lend for writing, and the device is of the class
pub record IsAgreed (loaned : List Bool) (entries : List Entry) (made : DeviceState) (class : Class) : Type 0 where
  pub loans : loaned ≡ lent_contexts entries
  pub kind : class_of made ≡ class

-- what a service leaves of a domain and of the kernel's queue, with what it returns
abbrev pub served_in : DomainView → Service → List (List ℕ) → Served
served_in s service queue = served s.heap_start service s.state.memory s.state.entries queue

-- a domain's state with the memory and the entries that a service leaves
abbrev pub with_served : Served → DomainState → DomainState
with_served s d = record d { memory = s.memory; entries = s.entries }

-- an arrival at the device
abbrev pub with_device : DeviceState → DomainState → DomainState
with_device device d = record d { device = device }
