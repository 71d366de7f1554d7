use Rattle.std.specs.Prelude.{ℕ, nat_lt, if◌then◌else◌, Bool, true, false, Option, Some, None, List, []}
use Rattle.nook_data.specs.Types.{Answer, Entry, Mode, Stage}
use Rattle.nook_data.specs.declared.steps.Event.TheVariants as event
use Rattle.nook_data.specs.declared.steps.Mode.TheVariants as mode
use Rattle.nook_data.specs.declared.calls.Op.TheVariants as op
use Rattle.nook_data.specs.declared.steps.Stage.TheVariants as stage
use Rattle.nook_data.specs.declared.limits.TheConstants.{SHADOW}
use Rattle.part_defs.specs.Calls.{Stepped}
use Rattle.nook_data.specs.Classes.{init_address, open_point, set_position}
use Rattle.machine_defs.specs.Devices.{reset_device}
use Rattle.part_defs.specs.Domain.{entered_domain, plainly_entered, stopped_domain, collected_domain, loaded_domain}
use Rattle.machine_defs.specs.Entries.{released}
use Rattle.part_defs.specs.Log.{following, stop_answers, stop_queue, gone_answers, held_by_shadow, no_call_open}
use Rattle.part_defs.specs.State.{CallLog, DomainState, PartState}

-- The stages of Boot and of Recovering; each is one step.

-- the next stage, if there is one
abbrev pub stage_due : Mode → Option Stage
stage_due (mode.Boot s) = Some s
stage_due mode.Running = None
stage_due (mode.Recovering s) = Some s
stage_due (mode.Dead false) = Some stage.Collect
stage_due (mode.Dead true) = None

-- the next stage of the boot or of the recovery is due; a part that was given up has none left
abbrev pub with_stage : Stage → Mode → Mode
with_stage s (mode.Boot was) = mode.Boot s
with_stage s (mode.Recovering was) = mode.Recovering s
with_stage s (mode.Dead collected) = mode.Dead true
with_stage s mode.Running = mode.Running

-- the mode after a stage: the following stage is due, or the driver serves applications after the last one
abbrev pub mode_after : Stage → CallLog → Mode → Mode
mode_after s log m = elim (following s log) as (λ o. Mode) [ None ↦ mode.Running | Some next ↦ with_stage next m ]

-- the part after a stage, with its event
abbrev pub stage_step : Stage → PartState → List (ℕ × Answer) → List Entry → Stepped
stage_step s p answers entries = record { state = p; event = event.Stage s answers entries }

-- the part has more failures than its limit
abbrev pub is_given_up : PartState → Bool
is_given_up p = nat_lt p.spec.limit p.failures

-- Stop within the limit: each open call is answered by the shadow or held
unfoldable pub stops : PartState → Stepped
stops p = stage_step stage.Stop
    (record p {
      domain = stopped_domain p.domain;
      log = held_by_shadow p.log;
      queue = stop_queue p.log.pending p.queue;
      mode = mode_after stage.Stop p.log (mode.Recovering stage.Stop);
    })
    (stop_answers p.log.pending p.log.config p.log.holder p.queue) []

-- Stop past the limit: each open call is answered Gone, and the part is dead
unfoldable pub gives_up_part : PartState → Stepped
gives_up_part p = stage_step stage.Stop
    (record p { domain = stopped_domain p.domain; log = no_call_open p.log; mode = mode.Dead false })
    (gone_answers p.failures p.log.pending) []

-- Collect: everything that the driver held is released, and the event lists it
unfoldable pub collects : PartState → Stepped
collects p = stage_step stage.Collect
    (record p { domain = collected_domain p.domain; mode = mode_after stage.Collect p.log p.mode })
    [] (released p.domain.entries)

-- the domain after its device is reset
abbrev pub with_reset : List ℕ → DomainState → DomainState
with_reset defaults d = record d { device = reset_device defaults d.device }

-- Reset: the device is in its initial state, except for the medium, the bad blocks and the counts of commands
unfoldable pub resets : PartState → Stepped
resets p = stage_step stage.Reset
    (record p { domain = with_reset p.log.defaults p.domain; mode = mode_after stage.Reset p.log p.mode }) [] []

-- Load: text and initial words are written again
unfoldable pub loads_image : PartState → Stepped
loads_image p = stage_step stage.Load
    (record p { domain = loaded_domain p.spec.image p.domain; mode = mode_after stage.Load p.log p.mode }) [] []

-- Init: the driver is entered at its first entry
unfoldable pub inits : PartState → Stepped
inits p = stage_step stage.Init (record p { domain = plainly_entered SHADOW init_address p.domain }) [] []

-- ReplaySet: the shadow asks the driver to set a key of the record again
unfoldable pub replays_set : ℕ → ℕ → PartState → Stepped
replays_set key value p = stage_step (stage.ReplaySet key value)
    (record p { domain = entered_domain SHADOW (set_position p.spec.class) (op.Set key value) p.domain }) [] []

-- ReplayOpen: the shadow asks the driver to open the stream again
unfoldable pub replays_open : PartState → Stepped
replays_open p = stage_step stage.ReplayOpen (record p { domain = plainly_entered SHADOW open_point p.domain }) [] []

-- Resume: the driver serves applications again
unfoldable pub resumes : PartState → Stepped
resumes p = stage_step stage.Resume (record p { mode = mode_after stage.Resume p.log p.mode }) [] []

-- the part after a stage, with its event
abbrev pub stage_done : Stage → PartState → Stepped
stage_done stage.Stop p = if is_given_up p then gives_up_part p else stops p
stage_done stage.Collect p = collects p
stage_done stage.Reset p = resets p
stage_done stage.Load p = loads_image p
stage_done stage.Init p = inits p
stage_done (stage.ReplaySet key value) p = replays_set key value p
stage_done stage.ReplayOpen p = replays_open p
stage_done stage.Resume p = resumes p

-- performs the stage that is due; if none is due, the step may not be taken, so the first case is not reached
unfoldable pub stage_stepped : PartState → Stepped
stage_stepped p = elim (stage_due p.mode) [ None ↦ stage_step stage.Resume p [] [] | Some s ↦ stage_done s p ]
