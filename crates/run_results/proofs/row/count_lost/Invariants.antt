use Rattle.std.proofs.Common.{◌≡◌, ◌+◌, drop}
use Rattle.run_results.specs.Sums.{lost_in}
use Rattle.run_results.proofs.row.count_lost.Given as goal

abbrev pub invariant-loop-part : goal.invariant-loop-part
invariant-loop-part l = l.count + lost_in (drop l.part-index l.parts) ≡ lost_in l.parts
