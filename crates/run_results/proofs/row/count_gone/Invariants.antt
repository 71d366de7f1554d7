use Rattle.std.proofs.Common.{◌≡◌, ◌+◌, drop}
use Rattle.report_defs.specs.Campaigns.{gone_count}
use Rattle.run_results.proofs.row.count_gone.Given as goal

abbrev pub invariant-loop-own : goal.invariant-loop-own
invariant-loop-own l = l.count + gone_count (drop l.own-index l.answers) ≡ gone_count l.answers
