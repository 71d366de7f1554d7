use Rattle.std.specs.Prelude.{ℕ, List, filter}
use Rattle.std.specs.List.Sorted.{IsNonDecreasingBy}
use Rattle.nook_data.specs.declared.scenario.Fault.{Fault}
use Rattle.machine_defs.specs.BurstFaults.{is_of_burst}

-- burst numbers do not fall along the list, nor does `after` among the faults of one burst
pub record IsOrdered (faults : List Fault) : Type 0 where
  pub bursts : IsNonDecreasingBy (λ f. f.burst) faults
  pub points : (burst : ℕ) → IsNonDecreasingBy (λ f. f.after) (filter (is_of_burst burst) faults)
