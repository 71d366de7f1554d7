use Rattle.std.proofs.Common.{◌≡◌, ℕ, nat_lt, if◌then◌else◌, is_some, Bool, true, false, List, refl, ap}
use Rattle.nook_data.specs.declared.calls.Answer.{Answer}
use Rattle.nook_data.specs.declared.entries.Entry.{Entry}
use Rattle.nook_data.specs.declared.steps.Event.TheVariants as event
use Rattle.nook_data.specs.declared.steps.Mode.{Mode}
use Rattle.nook_data.specs.declared.steps.Mode.TheVariants as mode
use Rattle.nook_data.specs.declared.steps.Stage.TheVariants as stage
use Rattle.nook_data.specs.declared.steps.Step.TheVariants as step
use Rattle.part_defs.specs.Runs.{event_of, state_after}
use Rattle.part_defs.specs.Stages.{collects, gives_up_part, inits, is_given_up, loads_image, replays_open, replays_set}
use Rattle.part_defs.specs.Stages.{resets, resumes, stage_due, stage_stepped, stops}
use Rattle.part_defs.specs.State.{PartState}
use Rattle.part_defs.specs.Steps.{enabled, stepped}
use Rattle.part_laws.proofs.Stages.{with_mode}
use Rattle.part_laws.specs.Facts.{is_dead}
use Rattle.headline_laws.proofs.GivenUp.{stage_due_of, stage_reported}

-- A Stop gives a part up exactly past the limit.

stop_dies : (p : PartState) → is_dead (if is_given_up p then gives_up_part p else stops p).state.mode ≡ is_given_up p
unfolding gives_up_part stops
stop_dies p = by_test (is_given_up p)
  where
    by_test : (b : Bool) → is_dead (if b then gives_up_part p else stops p).state.mode ≡ b
    by_test true = refl
    by_test false = refl

stage_dies : (m : Mode) (p : PartState) → is_some (stage_due m) ≡ true
    → stage_reported (stage_stepped (with_mode m p)).event ≡ stage.Stop
    → is_dead (stage_stepped (with_mode m p)).state.mode ≡ is_given_up p
unfolding stage_stepped collects resets loads_image inits replays_set replays_open resumes
stage_dies mode.Running p due h = absurd cc
stage_dies (mode.Dead false) p due h = absurd cc
stage_dies (mode.Dead true) p due h = absurd cc
stage_dies (mode.Boot stage.Stop) p due h = stop_dies (with_mode (mode.Boot stage.Stop) p)
stage_dies (mode.Boot stage.Collect) p due h = absurd cc
stage_dies (mode.Boot stage.Reset) p due h = absurd cc
stage_dies (mode.Boot stage.Load) p due h = absurd cc
stage_dies (mode.Boot stage.Init) p due h = absurd cc
stage_dies (mode.Boot (stage.ReplaySet key value)) p due h = absurd cc
stage_dies (mode.Boot stage.ReplayOpen) p due h = absurd cc
stage_dies (mode.Boot stage.Resume) p due h = absurd cc
stage_dies (mode.Recovering stage.Stop) p due h = stop_dies (with_mode (mode.Recovering stage.Stop) p)
stage_dies (mode.Recovering stage.Collect) p due h = absurd cc
stage_dies (mode.Recovering stage.Reset) p due h = absurd cc
stage_dies (mode.Recovering stage.Load) p due h = absurd cc
stage_dies (mode.Recovering stage.Init) p due h = absurd cc
stage_dies (mode.Recovering (stage.ReplaySet key value)) p due h = absurd cc
stage_dies (mode.Recovering stage.ReplayOpen) p due h = absurd cc
stage_dies (mode.Recovering stage.Resume) p due h = absurd cc

-- a step whose event is a Stop
pub stop_by_limit : (p : PartState) (answers : List (ℕ × Answer)) (released : List Entry) → enabled p step.Stage ≡ true
    → event_of p step.Stage ≡ event.Stage stage.Stop answers released
    → is_dead (state_after p step.Stage).mode ≡ nat_lt p.spec.limit p.failures
unfolding stepped
stop_by_limit p answers released may same = stage_dies p.mode p (stage_due_of p may) (ap stage_reported same)
