use Rattle.std.specs.Prelude.{Option, Some, None}
use Rattle.guard_defs.specs.FirstBreaks.{IsFirstStop, NoneBreaks}
use Rattle.guard_defs.specs.declared.stop.Stop.{Stop}
use Rattle.nook_data.specs.Types.{Scenario}
use Rattle.run_defs.specs.Simulation.{IsScheduledRun, Simulation}

-- the guard's first trap of a scenario; there is none if the scheduled run breaks no clause
abbrev pub IsNextStop : Scenario → Option Stop → Type 0
IsNextStop scenario None = (s : Simulation) × IsScheduledRun scenario s × NoneBreaks s
IsNextStop scenario (Some stop) = IsFirstStop scenario stop
