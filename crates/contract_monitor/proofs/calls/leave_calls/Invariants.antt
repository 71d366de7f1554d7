use Rattle.std.proofs.Common.{◌≡◌, map}
use Rattle.promise_defs.specs.Contract.{leave_call}
use Rattle.contract_monitor.specs.Calls.{change_to, open_of, effects_of}
use Rattle.contract_monitor.proofs.calls.leave_calls.Given as goal

abbrev pub invariant-loop-i : goal.invariant-loop-i
invariant-loop-i l = record {
  opened : map open_of l.calls.items ≡ change_to l.i leave_call (map open_of l.initial.calls.items);
  tallied : map effects_of l.calls.items ≡ map effects_of l.initial.calls.items;
}
