use Rattle.std.proofs.Common.{◌≡◌, ◌++◌, drop, length, take}
use Rattle.contract_monitor.proofs.blocks.overwrite.Given as goal

abbrev pub invariant-loop-index : goal.invariant-loop-index
invariant-loop-index l = record {
  words : l.list ≡ take l.index l.words ++ drop l.index l.initial.list;
  size : length l.list ≡ length l.words;
}
