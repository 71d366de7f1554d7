use Rattle.std.specs.Prelude.{ℕ, ◌-◌, ◌==◌, List, [], ◌∷◌, Bool, false, Option, None, Some}
use Rattle.machine_defs.specs.Burst.{Burst, burst_from, ended}
use Rattle.machine_defs.specs.Execution.{Machine}
use Rattle.nook_data.specs.declared.machine.Act.{Act}
use Rattle.nook_data.specs.declared.entries.Entry.{Entry}
use Rattle.nook_data.specs.declared.scenario.Fault.{Fault}
use Rattle.nook_data.specs.declared.limits.TheConstants.{MOST_INSTRUCTIONS}
use Rattle.nook_data.specs.declared.machine.BurstEnd.{BurstEnd}

-- whether the first fault strikes after this many instructions
abbrev pub is_due : ℕ → List Fault → Bool
is_due point [] = false
is_due point (f ∷ faults) = f.after == point

-- the result of a burst after some of its instructions: that of its rest, or the end that it reached
abbrev pub past_run : ℕ → List Entry → List Fault → Machine → List Act → Option BurstEnd → Burst
past_run count entries faults m acts None = burst_from (MOST_INSTRUCTIONS - count) entries faults m acts
past_run count entries faults m acts (Some ending) = ended count m acts ending
