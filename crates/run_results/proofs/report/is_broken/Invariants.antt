use Rattle.std.proofs.Common.{◌≡◌, drop}
use Rattle.run_results.specs.Reports.{is_broken}
use Rattle.run_results.proofs.report.is_broken.Given as goal

abbrev pub invariant-loop-part : goal.invariant-loop-part
invariant-loop-part l = is_broken l.parts ≡ is_broken (drop l.part-index l.parts)
