use Rattle.std.proofs.Common.{◌≡◌, map, drop}
use Rattle.promise_defs.specs.Contract.{play_inside}
use Rattle.contract_monitor.specs.Calls.{open_of}
use Rattle.contract_monitor.proofs.calls.find_playing.Given as goal

abbrev pub invariant-loop-call : goal.invariant-loop-call
invariant-loop-call l = play_inside (map open_of l.calls) ≡ play_inside (map open_of (drop l.call-index l.calls))
