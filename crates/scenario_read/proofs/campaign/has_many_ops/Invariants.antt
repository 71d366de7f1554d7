use Rattle.std.proofs.Common.{◌≡◌, drop}
use Rattle.std.specs.Prelude.{nat_lt}
use Rattle.nook_data.specs.Members.{ops_count}
use Rattle.scenario_read.proofs.campaign.has_many_ops.Given as goal

abbrev pub invariant-loop-thread : goal.invariant-loop-thread
invariant-loop-thread l = nat_lt 64 (ops_count l.threads) ≡ nat_lt l.left (ops_count (drop l.thread-index l.threads))
