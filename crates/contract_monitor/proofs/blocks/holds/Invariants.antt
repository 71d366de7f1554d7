use Rattle.std.proofs.Common.{◌≡◌, drop}
use Rattle.promise_defs.specs.Blocks.{holds_from}
use Rattle.contract_monitor.proofs.blocks.holds.Given as goal

abbrev pub invariant-loop-words : goal.invariant-loop-words
invariant-loop-words l = record { counted : l.block ≡ l.words-index; held : holds_from 0 l.op l.medium ≡ holds_from l.block l.op (drop l.words-index l.medium) }
