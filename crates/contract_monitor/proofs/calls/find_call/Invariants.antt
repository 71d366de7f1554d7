use Rattle.std.proofs.Common.{◌≡◌, ◌==◌, map, drop}
use Rattle.std.specs.List.{find}
use Rattle.promise_defs.specs.Contract.{call_of}
use Rattle.promise_defs.specs.Losses.{CallEffects}
use Rattle.contract_monitor.specs.Calls.{open_of, effects_of}
use Rattle.contract_monitor.proofs.calls.find_call.Given as goal

abbrev pub invariant-loop-call : goal.invariant-loop-call
invariant-loop-call l = record {
  opened : call_of l.number (map open_of l.calls) ≡ call_of l.number (map open_of (drop l.call-index l.calls));
  tallied : find (λ (t : CallEffects). t.number == l.number) (map effects_of l.calls) ≡ find (λ (t : CallEffects). t.number == l.number) (map effects_of (drop l.call-index l.calls));
}
