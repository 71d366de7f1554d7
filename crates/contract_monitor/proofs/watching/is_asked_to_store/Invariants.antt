use Rattle.std.proofs.Common.{◌≡◌, map, drop}
use Rattle.std.specs.List.{list_any}
use Rattle.promise_defs.specs.Contract.{may_store}
use Rattle.contract_monitor.specs.Calls.{open_of}
use Rattle.contract_monitor.proofs.watching.is_asked_to_store.Given as goal

abbrev pub invariant-loop-call : goal.invariant-loop-call
invariant-loop-call l = list_any (may_store l.block) (map open_of l.calls) ≡ list_any (may_store l.block) (map open_of (drop l.call-index l.calls))
