use Rattle.std.proofs.Common.{◌≡◌, take, length, map}
use Rattle.contract_monitor.specs.Calls.{effects_of}
use Rattle.contract_monitor.proofs.comparing.are_tallied_alike.Given as goal

abbrev pub invariant-loop-index : goal.invariant-loop-index
invariant-loop-index l = record {
  counted : length l.calls ≡ length l.others;
  tallied : map effects_of (take l.index l.calls) ≡ map effects_of (take l.index l.others);
}
