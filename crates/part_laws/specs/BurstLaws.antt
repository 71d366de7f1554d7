use Rattle.std.specs.Prelude.{◌≡◌, List, length}
use Rattle.nook_data.specs.declared.entries.Entry.{Entry}
use Rattle.nook_data.specs.declared.scenario.Fault.{Fault}
use Rattle.machine_defs.specs.Burst.{burst}
use Rattle.promise_defs.specs.Isolation.{ChangesOnlyAllowed}
use Rattle.machine_defs.specs.Execution.{Machine}

-- a burst changes only words that the driver may write, and text words that a fault of the burst names; memory keeps
-- its length
pub record IsIsolatedBurst (entries : List Entry) (faults : List Fault) (m : Machine) : Type 0 where
  pub changes : ChangesOnlyAllowed entries faults m.memory (burst entries faults m).machine.memory
  pub same_length : length (burst entries faults m).machine.memory ≡ length m.memory
