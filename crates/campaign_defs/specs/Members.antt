use Rattle.std.specs.Prelude.{◌≡◌, ℕ, All, Bool, true, false, List, [], ◌∷◌, length, map, Option, Some, slice_get}
use Rattle.guard_defs.specs.Every.{every_fault, every_fault_guarded}
use Rattle.guard_defs.specs.Guard.{HasRoom}
use Rattle.guard_defs.specs.GuardedRuns.{IsGuardedSchedule, guarded_scenario, stops_found}
use Rattle.plan_defs.specs.Plans.{struck_by}
use Rattle.plan_defs.specs.Types.{Plan, Strikes}
use Rattle.plan_defs.specs.declared.plan.Strikes.TheVariants as strikes
use Rattle.nook_data.specs.Types.{Event, Fault, FaultKind, PartSpec, Scenario}
use Rattle.nook_data.specs.Valid.{IsValidScenario}
use Rattle.run_defs.specs.Simulation.{IsScheduledRun, RunningPart, Simulation, begins}

-- The runs of a campaign, and the faults of its members.

-- ---- runs

-- a run: a scenario, to which a guard may have added its traps, its simulation, and the number of these traps
pub record Ran : Type 0 where
  pub scenario : Scenario
  pub simulation : Simulation
  pub traps : ℕ

-- the run is the scheduled run of a scenario
pub record IsFreeRun (scenario : Scenario) (ran : Ran) : Type 0 where
  pub same : ran.scenario ≡ scenario
  pub scheduled : IsScheduledRun scenario ran.simulation
  pub no_traps : ran.traps ≡ 0

-- the run is the guarded run of a scenario
pub record IsGuardedRunOf (scenario : Scenario) (ran : Ran) : Type 0 where
  pub guarded : IsGuardedSchedule scenario ran.simulation
  pub same : ran.scenario ≡ guarded_scenario scenario ran.simulation
  pub scheduled : IsScheduledRun ran.scenario ran.simulation
  pub count : ran.traps ≡ length (stops_found guarded.steps (begins scenario))

-- the run is the one that a campaign makes of a scenario: the guarded run with a guard, else the scheduled run
abbrev pub IsRunUnder : Bool → Scenario → Ran → Type 0
IsRunUnder true scenario ran = IsGuardedRunOf scenario ran
IsRunUnder false scenario ran = IsFreeRun scenario ran

-- the run of the base
abbrev pub IsBaseRun : Plan → Ran → Type 0
IsBaseRun plan ran = IsRunUnder plan.guard plan.base ran

-- the run of the member with these faults
abbrev pub IsMemberRun : Plan → List Fault → Ran → Type 0
IsMemberRun plan faults ran = IsRunUnder plan.guard (struck_by plan.base plan.part faults) ran

-- ---- members

-- a list of one fault
abbrev pub alone : Fault → List Fault
alone fault = fault ∷ []

-- every fault of some kinds that strikes in a part's run, with or without a guard
abbrev pub every_under : Bool → List FaultKind → PartSpec → List Event → List Fault
every_under true kinds spec journal = every_fault_guarded kinds spec journal
every_under false kinds spec journal = every_fault kinds spec journal

-- every fault of some kinds that strikes in a part, from the part and its state in the base's run, if both exist
abbrev pub every_of : Bool → List FaultKind → Option PartSpec → Option RunningPart → List Fault
every_of guard kinds (Some spec) (Some seat) = every_under guard kinds spec seat.run.journal
every_of guard kinds spec seat = []

-- the faults of each member, given what strikes and the base's run
abbrev pub members_of : Plan → Strikes → Ran → List (List Fault)
members_of plan (strikes.Faults faults) base = map alone faults
members_of plan (strikes.Members lists) base = lists
members_of plan (strikes.Every kinds) base = map alone
    (every_of plan.guard kinds (slice_get plan.base.parts plan.part) (slice_get base.simulation.parts plan.part))

-- the faults of each member of a campaign
abbrev pub members : Plan → Ran → List (List Fault)
members plan base = members_of plan plan.strikes base

-- the campaign runs every fault of some kinds
abbrev pub runs_every : Strikes → Bool
runs_every (strikes.Every kinds) = true
runs_every (strikes.Faults faults) = false
runs_every (strikes.Members lists) = false

-- ---- scenarios that can be run

-- a valid scenario; with a guard, each part has room for its traps
pub record CanRunUnder (guard : Bool) (scenario : Scenario) : Type 0 where
  pub valid : IsValidScenario scenario
  pub room : guard ≡ true → All HasRoom scenario.parts

-- the scenario of the member with these faults can be run
abbrev pub CanRunMember : Plan → List Fault → Type 0
CanRunMember plan faults = CanRunUnder plan.guard (struck_by plan.base plan.part faults)
