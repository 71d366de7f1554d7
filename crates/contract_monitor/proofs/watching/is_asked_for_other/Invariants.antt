use Rattle.std.proofs.Common.{◌≡◌, map, drop}
use Rattle.std.specs.List.{list_any}
use Rattle.promise_defs.specs.Contract.{stores_other}
use Rattle.contract_monitor.specs.Calls.{open_of}
use Rattle.contract_monitor.proofs.watching.is_asked_for_other.Given as goal

abbrev pub invariant-loop-call : goal.invariant-loop-call
invariant-loop-call l = list_any (stores_other l.block l.words) (map open_of l.calls) ≡ list_any (stores_other l.block l.words) (map open_of (drop l.call-index l.calls))
