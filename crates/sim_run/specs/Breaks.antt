use Rattle.std.specs.Prelude.{◌≡◌, ℕ, Option, Some, None}
use Rattle.nook_data.specs.Types.{Scenario}
use Rattle.nook_data.specs.declared.steps.Step.TheVariants as step
use Rattle.contract_monitor.specs.Monitors.{Represents}
use Rattle.guard_defs.specs.FirstBreaks.{IsFirstBreak, NoneBreaks}
use Rattle.guard_defs.specs.GuardedRuns.{spec_of}
use Rattle.part_defs.specs.Runs.{event_of}
use Rattle.run_defs.specs.Simulation.{Choice, IsScheduledRun, RunningPart, Simulation}
use Rattle.sim_run.specs.declared.breaking.WrongBurst.{WrongBurst}

-- The first break of a scenario's scheduled run, as the search finds it.

-- it is the first burst of the run that breaks a clause: its part, the part's domain before it, its event, and a monitor
-- of the part's journal before it
pub record IsWrongBurst (scenario : Scenario) (found : WrongBurst) : Type 0 where
  pub steps : ℕ
  pub choice : Choice
  pub seat : RunningPart
  pub context : ℕ
  pub first : IsFirstBreak scenario steps choice seat context
  pub part : found.part ≡ choice.part
  pub domain : found.domain.state ≡ seat.run.state.domain
  pub event : found.event ≡ event_of seat.run.state (step.Burst context)
  pub monitor : Represents (spec_of seat).class (spec_of seat).blocks seat.run.journal found.monitor

-- the first burst of the scheduled run that breaks a clause; none if no part's journal breaks one
abbrev pub LeadsToBreak : Scenario → Option WrongBurst → Type 0
LeadsToBreak scenario None = (s : Simulation) × IsScheduledRun scenario s × NoneBreaks s
LeadsToBreak scenario (Some found) = IsWrongBurst scenario found

-- During the search.

-- the first break comes after this many steps of the scheduled run
pub record BreaksAfter (scenario : Scenario) (steps : ℕ) : Type 0 where
  pub choice : Choice
  pub seat : RunningPart
  pub context : ℕ
  pub first : IsFirstBreak scenario steps choice seat context

-- the number of steps before the first break; none if no part's journal breaks a clause
abbrev pub HasBreakAfter : Scenario → Option ℕ → Type 0
HasBreakAfter scenario None = LeadsToBreak scenario None
HasBreakAfter scenario (Some steps) = BreaksAfter scenario steps
