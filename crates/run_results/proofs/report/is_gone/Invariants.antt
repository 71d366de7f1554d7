use Rattle.std.proofs.Common.{◌≡◌, drop}
use Rattle.run_results.specs.Reports.{is_gone}
use Rattle.run_results.proofs.report.is_gone.Given as goal

abbrev pub invariant-loop-i : goal.invariant-loop-i
invariant-loop-i l = is_gone l.specs l.parts ≡ is_gone (drop l.i l.specs) (drop l.i l.parts)
