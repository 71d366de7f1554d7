use Rattle.std.specs.Prelude.{◌≡◌, ◌≤◌, ◌<◌, ◌^◌, ℕ, List}
use Rattle.part_laws.specs.Loans.{HasLoans}
use Rattle.nook_data.specs.declared.scenario.Fault.{Fault}
use Rattle.part_defs.specs.Runs.{PartRun, IsRun, state_of}
use Rattle.part_defs.specs.State.{PartState}
use Rattle.machine_defs.specs.BurstFaults.{faults_of_burst}
use Rattle.nook_data.specs.Valid.{IsValidPart}
use Rattle.part_laws.specs.Fit.{IsFit}
use Rattle.part_laws.specs.Tied.{IsTied}

-- What holds of every part.

-- its spec is valid, its journal is a run of it, and it is the part that the run leads to
pub record IsKept (r : PartRun) : Type 0 where
  pub valid : IsValidPart r.state.spec
  pub run : IsRun r.state.spec r.journal
  pub state : r.state ≡ state_of r.state.spec r.journal

-- what the laws of runs say of the state, and what each step relies on
pub record IsSound (p : PartState) : Type 0 where
  pub fit : IsFit p
  pub tied : IsTied p
  pub loans : HasLoans p
  pub limit : p.spec.limit ≤ 16
  pub blocks : p.spec.blocks ≤ 256
  pub bursts : p.bursts < 2 ^ 23

-- the two lists have the same faults for each burst, in the same order
abbrev pub AreSameFaults : List Fault → List Fault → Type 0
AreSameFaults script faults = (burst : ℕ) → faults_of_burst burst script ≡ faults_of_burst burst faults
