use Rattle.std.proofs.Common.{◌≡◌, [], drop}
use Rattle.serde_json.specs.View.{view}
use Rattle.input_defs.specs.ImageReading.{addresses_from}
use Rattle.scenario_read.proofs.image.addresses_of.Given as goal

abbrev pub invariant-loop-key : goal.invariant-loop-key
invariant-loop-key l = addresses_from (drop l.key-index l.keys) l.addresses (view l.value) ≡ addresses_from l.keys [] (view l.value)
