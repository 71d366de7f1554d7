use Rattle.std.proofs.Common.{◌≡◌, drop}
use Rattle.nook_data.specs.Names.{of_text}
use Rattle.nook_data.specs.OpNames.{op_word}
use Rattle.nook_data.proofs.calls.op_named.Given as goal

abbrev pub invariant-loop-index : goal.invariant-loop-index
invariant-loop-index l = of_text op_word l.names l.word ≡ of_text op_word (drop l.index l.names) l.word
