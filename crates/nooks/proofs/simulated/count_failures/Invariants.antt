use Rattle.std.proofs.Common.{◌≡◌, ◌+◌, ◌*◌, ◌≤◌, drop}
use Rattle.run_results.specs.Reports.{failures_in}
use Rattle.nooks.proofs.simulated.count_failures.Given as goal

abbrev pub invariant-loop-part : goal.invariant-loop-part
invariant-loop-part l = (l.count + failures_in (drop l.part-index l.parts) ≡ failures_in l.parts) × (l.count ≤ 4294967295 * l.part-index)
