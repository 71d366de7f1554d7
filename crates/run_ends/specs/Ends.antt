use Rattle.std.specs.Prelude.{ℕ, List}
use Rattle.machine_defs.specs.Devices.{medium_of}
use Rattle.part_defs.specs.State.{PartState}
use Rattle.run_results.specs.Reports.{objects_from}
use Rattle.run_results.specs.declared.report.PartEnd.{PartEnd}

-- the words of kernel objects 1 to 12
unfoldable pub objects_in : List ℕ → List (List ℕ)
objects_in memory = objects_from 1 12 memory

-- the final state of a part
unfoldable pub end_of : PartState → PartEnd
end_of p = record {
  objects = objects_in p.domain.memory;
  medium = medium_of p.domain.device;
  config = p.log.config;
  failures = p.failures;
}
