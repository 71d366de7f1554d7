use Rattle.std.proofs.Common.{◌≡◌, drop}
use Rattle.scenario_write.specs.ScenarioText.{has_bad}
use Rattle.scenario_write.proofs.scenario.has_bad.Given as goal

abbrev pub invariant-loop-part : goal.invariant-loop-part
invariant-loop-part l = has_bad l.parts ≡ has_bad (drop l.part-index l.parts)
