use Rattle.std.proofs.Common.{◌≡◌, false, map, take}
use Rattle.std.specs.List.{list_any}
use Rattle.promise_defs.specs.Contract.{is_playing}
use Rattle.contract_monitor.specs.Calls.{open_of}
use Rattle.contract_monitor.proofs.calls.play_one.Given as goal

abbrev pub invariant-loop-i : goal.invariant-loop-i
invariant-loop-i l = record {
  same : l.calls ≡ l.initial.calls;
  none : list_any is_playing (take l.i (map open_of l.calls.items)) ≡ false;
}
