use Rattle.std.proofs.Common.{◌≡◌, ◌==◌, if◌then◌else◌, map}
use Rattle.promise_defs.specs.Contract.{OpenCall}
use Rattle.promise_defs.specs.Losses.{CallEffects}
use Rattle.contract_monitor.specs.Calls.{change_to, open_change, open_of, effects_change, effects_of}
use Rattle.contract_monitor.proofs.calls.change_calls.Given as goal

abbrev pub invariant-loop-i : goal.invariant-loop-i
invariant-loop-i l = record {
  opened : map open_of l.calls.items ≡ change_to l.i (λ (c : OpenCall). if c.number == l.number then open_change l.change c else c) (map open_of l.initial.calls.items);
  tallied : map effects_of l.calls.items ≡ change_to l.i (λ (t : CallEffects). if t.number == l.number then effects_change l.change t else t) (map effects_of l.initial.calls.items);
}
