use Rattle.std.specs.Prelude.{◌≡◌}
use Rattle.nook_data.specs.Types.{PartSpec}
use Rattle.guard_defs.specs.Guard.{IsGuardedRun, traps_of, with_after}
use Rattle.guard_defs.specs.GuardedRuns.{spec_of}
use Rattle.run_defs.specs.Simulation.{RunningPart}
use Rattle.front_laws.specs.Guarded.{guarded_at}

-- a part of a guarded run of a scenario: its journal is a guarded run of the part in the scenario, its state is the one
-- after this run, and its faults are its own followed by the guard's traps
pub record IsGuardedPart (spec : PartSpec) (seat : RunningPart) : Type 0 where
  pub run : IsGuardedRun spec seat.run.journal
  pub state : seat.run.state ≡ guarded_at spec seat.run.journal
  pub faults : spec_of seat ≡ with_after (traps_of spec seat.run.journal) spec
