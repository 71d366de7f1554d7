-- What taps have heard of the run of a mirror if memory ran out.
use Rattle.std.specs.Prelude.{◌≡◌, ◌⊎◌, List, [], ◌∷◌}
use Rattle.nook_data.specs.declared.steps.Event.{Event}
use Rattle.nook_data.specs.declared.mirror.MirrorAnswer.{MirrorAnswer}
use Rattle.nook_data.specs.declared.scenario.Scenario.{Scenario}
use Rattle.nook_io.specs.Listening.{Listening}
use Rattle.request_taps.specs.Bus.{after_hearing_all}
use Rattle.request_taps.specs.declared.tap.Tap.{Tap}
use Rattle.run_results.specs.Journals.{AreRuns}
use Rattle.threaded_run.specs.Threaded.{in_parts}
use Rattle.mirrored_run.specs.Mirrors.{IsMirrorRun}

-- taps heard all events of journals that the run of a mirror may leave, part by part
pub record HearAll (scenario : Scenario) (old new : List (Tap Listening)) : Type 0 where
  pub left : List Event
  pub right : List Event
  pub answers : List MirrorAnswer
  pub runs : AreRuns scenario.parts (left ∷ right ∷ [])
  pub mirrored : IsMirrorRun scenario left right answers
  pub heard : new ≡ after_hearing_all (in_parts 0 (left ∷ right ∷ [])) old

-- or they heard nothing
abbrev pub HearAllOrNothing : Scenario → List (Tap Listening) → List (Tap Listening) → Type 0
HearAllOrNothing scenario old new = (new ≡ old) ⊎ HearAll scenario old new
