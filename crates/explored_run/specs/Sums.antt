use Rattle.std.specs.Prelude.{ℕ, ◌+◌, ◌||◌, Bool, false, is_some, List, [], ◌∷◌}
use Rattle.contract_monitor.specs.Keeping.{losses_of}
use Rattle.contract_monitor.specs.Monitors.{Monitored}
use Rattle.part_defs.specs.Stages.{is_given_up}
use Rattle.report_defs.specs.Campaigns.{lost_of}
use Rattle.run_defs.specs.Simulation.{RunningPart}

-- Sums over parts and monitors.

-- the failures of parts
abbrev pub failures_of : List RunningPart → ℕ
failures_of [] = 0
failures_of (seat ∷ seats) = seat.run.state.failures + failures_of seats

-- some part was given up
abbrev pub any_given_up : List RunningPart → Bool
any_given_up [] = false
any_given_up (seat ∷ seats) = is_given_up seat.run.state || any_given_up seats

-- what was lost, as counted by monitors
abbrev pub lost_by : List Monitored → ℕ
lost_by [] = 0
lost_by (m ∷ monitors) = lost_of (losses_of m.kept.counts) + lost_by monitors

-- some monitor has seen a clause broken
abbrev pub any_broken : List Monitored → Bool
any_broken [] = false
any_broken (m ∷ monitors) = is_some m.broken || any_broken monitors
