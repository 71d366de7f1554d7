use Rattle.std.proofs.Common.{◌≡◌, ◌++◌, drop}
use Rattle.std.specs.Prelude.{string_bytes, false}
use Rattle.serde_json.specs.Written.{items_text}
use Rattle.scenario_write.specs.ScenarioText.{items_with}
use Rattle.scenario_write.proofs.lists.push_list.Given as goal

abbrev pub invariant-loop-item : goal.invariant-loop-item
invariant-loop-item g l = string_bytes l.text ++ items_text l.later (items_with g.T.Written.json (drop l.item-index l.items))
    ≡ string_bytes l.initial.text ++ items_text false (items_with g.T.Written.json l.items)
