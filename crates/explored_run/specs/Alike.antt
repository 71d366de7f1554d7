use Rattle.std.specs.Prelude.{Bool, false, List, [], ◌∷◌}
use Rattle.contract_monitor.specs.Monitors.{JudgeAlike, Monitored, Represents}
use Rattle.explore_defs.specs.Outcomes.{given_by, left_by}
use Rattle.explore_defs.specs.declared.outcome.PartOutcome.{PartOutcome}
use Rattle.nook_data.specs.Types.{Act, Class, Event}
use Rattle.nook_data.specs.declared.classes.Class.TheVariants as class
use Rattle.nook_data.specs.declared.steps.Event.TheVariants as event
use Rattle.part_defs.specs.Runs.{PartRun}
use Rattle.promise_defs.specs.Losses.{is_played, is_sent}
use Rattle.report_defs.specs.ReportText.{journal_acts}
use Rattle.run_defs.specs.Simulation.{RunningPart}

-- How two simulations are compared, besides the states of their parts.

-- the report of a part of this class lists the act
abbrev pub is_given : Class → Act → Bool
is_given class.Block a = false
is_given class.Net a = is_sent a
is_given class.Sound a = is_played a

-- the acts of an event
abbrev pub event_acts : Event → List Act
event_acts (event.Burst context call burst count e acts a failure) = acts
event_acts e = []

-- the acts that a part's report lists
abbrev pub given_in : PartRun → List Act
given_in run = given_by run.state.spec.class (journal_acts run.journal)

abbrev pub given_at : RunningPart → List Act
given_at seat = given_in seat.run

-- the monitors of both lists judge alike, in pairs
abbrev pub MonitorsAlike : List Monitored → List Monitored → Type 0
MonitorsAlike [] [] = Unit {0}
MonitorsAlike [] (n ∷ others) = ⊥
MonitorsAlike (m ∷ monitors) [] = ⊥
MonitorsAlike (m ∷ monitors) (n ∷ others) = JudgeAlike m n × MonitorsAlike monitors others

-- a monitor has seen a part's journal
abbrev pub HasSeenRun : PartRun → Monitored → Type 0
HasSeenRun run m = Represents run.state.spec.class run.state.spec.blocks run.journal m

-- the outcome of a part
abbrev pub run_outcome : PartRun → PartOutcome
run_outcome run = left_by run.state.spec run.journal run.state
