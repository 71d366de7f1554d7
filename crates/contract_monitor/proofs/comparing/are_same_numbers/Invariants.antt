use Rattle.std.proofs.Common.{◌≡◌, take, length}
use Rattle.contract_monitor.proofs.comparing.are_same_numbers.Given as goal

abbrev pub invariant-loop-index : goal.invariant-loop-index
invariant-loop-index l = record {
  counted : length l.numbers.items ≡ length l.others.items;
  same : take l.index l.numbers.items ≡ take l.index l.others.items;
}
