use Rattle.std.proofs.Common.{◌≡◌, ◌++◌, drop}
use Rattle.guard_defs.specs.GuardText.{guard_lines}
use Rattle.nooks.proofs.guarding.push_guard_lines.Given as goal

abbrev pub invariant-loop-stop : goal.invariant-loop-stop
invariant-loop-stop l = l.lines ++ guard_lines (drop l.stop-index l.stops) ≡ l.initial.lines ++ guard_lines l.stops
