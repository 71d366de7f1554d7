use Rattle.std.proofs.Common.{◌≡◌, map, drop}
use Rattle.std.specs.List.{list_any}
use Rattle.promise_defs.specs.Contract.{is_setting}
use Rattle.contract_monitor.specs.Calls.{open_of}
use Rattle.contract_monitor.proofs.watching.is_asked_to_set.Given as goal

abbrev pub invariant-loop-call : goal.invariant-loop-call
invariant-loop-call l = list_any (is_setting l.key l.value) (map open_of l.calls) ≡ list_any (is_setting l.key l.value) (map open_of (drop l.call-index l.calls))
