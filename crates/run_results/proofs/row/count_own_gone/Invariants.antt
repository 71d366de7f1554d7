use Rattle.std.proofs.Common.{◌≡◌, ◌+◌, drop}
use Rattle.report_defs.specs.Campaigns.{gone_in}
use Rattle.run_results.proofs.row.count_own_gone.Given as goal

abbrev pub invariant-loop-reported : goal.invariant-loop-reported
invariant-loop-reported l = l.count + gone_in (drop l.reported-index l.answers) ≡ gone_in l.answers
