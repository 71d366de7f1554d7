use Rattle.std.proofs.Common.{◌≡◌, ◌++◌, drop, map}
use Rattle.serde_json.specs.View.{view}
use Rattle.driver_asm.specs.Names.{hex_data}
use Rattle.driver_asm.proofs.json.hex_values.Given as goal

abbrev pub invariant-loop-word : goal.invariant-loop-word
invariant-loop-word l = map view l.values.items ++ map hex_data (drop l.word-index l.words) ≡ map hex_data l.words
