-- The text of a valid scenario is read as that scenario.
use Rattle.std.proofs.Common.{◌≡◌, Ok}
use Rattle.serde_json.specs.Read.{max_depth}
use Rattle.input_defs.specs.ScenarioReading.{scenario_from}
use Rattle.nook_data.specs.Valid.{IsValidScenario}
use Rattle.nook_data.specs.declared.scenario.Scenario.{Scenario}
use Rattle.reading_laws.proofs.PlainData.{json_read, json_with_feed}
use Rattle.scenario_write.proofs.PlainScenario.{scenario_plain}
use Rattle.scenario_write.proofs.Sorted.{read_sorted, sorted}
use Rattle.scenario_write.proofs.WholeBack.{scenario_back}
use Rattle.scenario_write.specs.ScenarioText.{scenario_data, scenario_json, scenario_line}

pub text_back : (scenario : Scenario) → IsValidScenario scenario → scenario_from (scenario_json scenario) ≡ Ok scenario
unfolding scenario_from scenario_json
text_back scenario h =
    let plain = scenario_plain scenario h in
    rw (json_read (scenario_data scenario) (sorted (scenario_data scenario)) plain (read_sorted max_depth (scenario_data scenario) plain)) (scenario_back scenario h)

pub line_back : (scenario : Scenario) → IsValidScenario scenario → scenario_from (scenario_line scenario) ≡ Ok scenario
unfolding scenario_from scenario_json
line_back scenario h =
    let plain = scenario_plain scenario h in
    rw (json_with_feed (scenario_data scenario) (sorted (scenario_data scenario)) plain (read_sorted max_depth (scenario_data scenario) plain)) (scenario_back scenario h)
