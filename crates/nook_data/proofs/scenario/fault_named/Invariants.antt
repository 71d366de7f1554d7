use Rattle.std.proofs.Common.{◌≡◌, drop}
use Rattle.nook_data.specs.Names.{of_text}
use Rattle.nook_data.specs.FaultNames.{fault_word}
use Rattle.nook_data.proofs.scenario.fault_named.Given as goal

abbrev pub invariant-loop-index : goal.invariant-loop-index
invariant-loop-index l = of_text fault_word l.names l.word ≡ of_text fault_word (drop l.index l.names) l.word
