use Rattle.std.proofs.Common.{◌≡◌, map, take}
use Rattle.contract_monitor.specs.Calls.{open_of, effects_of}
use Rattle.contract_monitor.proofs.calls.copy_calls.Given as goal

abbrev pub invariant-loop-call : goal.invariant-loop-call
invariant-loop-call l = record {
  opened : map open_of l.made.items ≡ map open_of (take l.call-index l.calls);
  tallied : map effects_of l.made.items ≡ map effects_of (take l.call-index l.calls);
}
