use Rattle.std.proofs.Common.{◌≡◌, map, take}
use Rattle.threaded_run.proofs.opening.arrivals_of.Given as goal

abbrev pub invariant-loop-spec : goal.invariant-loop-spec
invariant-loop-spec l = l.made.items ≡ map (λ spec. spec.arrivals) (take l.spec-index l.parts)
