-- What the run of a mirror leaves before it is published.
use Rattle.std.specs.Prelude.{◌≡◌, List, [], ◌∷◌, map}
use Rattle.nook_data.specs.declared.steps.Event.{Event}
use Rattle.nook_data.specs.declared.scenario.Scenario.{Scenario}
use Rattle.run_results.specs.Reports.{HaveEnds}
use Rattle.run_results.specs.Journals.{AreRuns, events_in}
use Rattle.mirrored_run.specs.declared.running.Unheard.{Unheard}
use Rattle.mirrored_run.specs.Mirrors.{IsMirrorRun}

-- the mirror of the scenario was run, and each part ends as reported
pub record IsWholeRun (scenario : Scenario) (made : Unheard) : Type 0 where
  pub runs : AreRuns scenario.parts (map events_in made.journals)
  pub ends : HaveEnds scenario.parts made.journals made.ends
  pub mirrored : (left right : List Event) × (map events_in made.journals ≡ left ∷ right ∷ [])
      × IsMirrorRun scenario left right made.answers
