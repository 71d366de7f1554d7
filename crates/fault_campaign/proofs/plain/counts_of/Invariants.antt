use Rattle.std.proofs.Common.{◌≡◌, ◌++◌, drop}
use Rattle.campaign_defs.specs.TableText.{counts_of}
use Rattle.fault_campaign.proofs.plain.counts_of.Given as goal

abbrev pub invariant-loop-row : goal.invariant-loop-row
invariant-loop-row l = l.table ++ counts_of (drop l.row-index l.rows) ≡ counts_of l.rows
