use Rattle.std.specs.Prelude.{⊤}
use Rattle.std.specs.Fmt.{digits}
use Rattle.rand_core.specs.Steps.{u32_at, word_bytes}
use Rattle.rand_core.specs.Pcg32Seed.{pcg32_seed}
use Rattle.machine_defs.specs.Burst.{burst, burst_from}
use Rattle.part_defs.specs.Calls.{after_invoke, after_enter}
use Rattle.part_defs.specs.Crossing.{fails, next_stage, closes_call, after_crossing}
use Rattle.machine_defs.specs.Devices.{reset_device, opening_device, with_arrival}
use Rattle.part_defs.specs.Domain.{opening_domain, entered_domain, plainly_entered, domain_burst, result_set}
use Rattle.part_defs.specs.Domain.{left_domain, stopped_domain, collected_domain, loaded_domain, noted}
use Rattle.machine_defs.specs.Entries.{lowest_run}
use Rattle.part_defs.specs.Log.{opening_log, with_call, with_answered_call, after_entering, after_answering}
use Rattle.part_defs.specs.Log.{after_acknowledging, shadow_answer, replay_after}
use Rattle.part_defs.specs.Views.CallLogs.{after_holding}
use Rattle.machine_defs.specs.Pages.{opening_memory, loaded_memory}
use Rattle.part_defs.specs.Runs.{state_from, next_for, next_recovery, next_any}
use Rattle.run_defs.specs.Schedules.{opening_order, picked}
use Rattle.machine_defs.specs.Services.{served}
use Rattle.run_defs.specs.Simulation.{begins, choices_of, taken, runs}
use Rattle.part_defs.specs.Stages.{stops, gives_up_part, collects, resets, loads_image, inits, replays_set}
use Rattle.part_defs.specs.Stages.{replays_open, resumes, stage_stepped}
use Rattle.part_defs.specs.Steps.{opening, enabled, burst_stepped, after_arrival, stepped}
use Rattle.machine_defs.specs.BurstFaults.{faults_of_burst}
use Rattle.machine_defs.specs.Execution.{turn}
use Rattle.worked_rows.proofs.InputOnLiterals.{input_on_literals}
use Rattle.worked_rows.proofs.TraceOnLiterals.{trace_on_literals}

-- a law that computes unfolds this one name, and with it every definition of a part and its runs
unfoldable pub part_on_literals : ⊤
unfolding digits u32_at word_bytes pcg32_seed
    burst burst_from after_invoke after_enter fails next_stage closes_call after_crossing reset_device opening_device with_arrival
    opening_domain entered_domain plainly_entered domain_burst result_set left_domain stopped_domain collected_domain loaded_domain noted
    lowest_run opening_log with_call with_answered_call after_entering after_holding after_answering after_acknowledging shadow_answer replay_after
    opening_memory loaded_memory state_from next_for next_recovery next_any opening_order picked served begins choices_of taken runs
    stops gives_up_part collects resets loads_image inits replays_set replays_open resumes stage_stepped
    opening enabled faults_of_burst burst_stepped after_arrival stepped turn
part_on_literals = tt

-- a law that computes unfolds this one name, and with it every definition
unfoldable pub nook_on_literals : ⊤
unfolding part_on_literals input_on_literals trace_on_literals
nook_on_literals = tt
