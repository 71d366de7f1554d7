-- Each part of a valid scenario's run is safe, by the law of parts.
use Rattle.std.proofs.Common.{List, [], ◌∷◌}
use Rattle.std.proofs.lemmas.List.Elements.{recursion_from_All}
use Rattle.std.specs.List.{AllByRecursion}
use Rattle.nook_data.specs.declared.steps.Event.{Event}
use Rattle.nook_data.specs.declared.scenario.PartSpec.{PartSpec}
use Rattle.nook_data.specs.declared.scenario.Scenario.{Scenario}
use Rattle.nook_data.specs.Valid.{IsValidPart, IsValidScenario}
use Rattle.headline_laws.proofs.Safe.{run_safe}
use Rattle.headline_laws.specs.Headline.{AreSafe}
use Rattle.run_results.specs.Journals.{AreRuns}

safe_each : (specs : List PartSpec) (journals : List (List Event)) → AllByRecursion IsValidPart specs → AreRuns specs journals → AreSafe specs journals
unfolding AreSafe
safe_each [] [] valid runs = tt
safe_each [] (journal ∷ journals) valid runs = absurd runs
safe_each (spec ∷ specs) [] valid runs = absurd runs
safe_each (spec ∷ specs) (journal ∷ journals) valid runs =
    (run_safe spec journal valid.0 runs.0, safe_each specs journals valid.1 runs.1)

-- the parts of a valid scenario's run
pub all_safe : (scenario : Scenario) (journals : List (List Event)) → IsValidScenario scenario → AreRuns scenario.parts journals
    → AreSafe scenario.parts journals
all_safe scenario journals valid runs =
    safe_each scenario.parts journals (recursion_from_All IsValidPart scenario.parts valid.parts) runs
