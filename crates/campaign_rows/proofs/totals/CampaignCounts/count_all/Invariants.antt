use Rattle.std.proofs.Common.{◌≡◌, ◌+◌, ◌++◌, List, take}
use Rattle.campaign_defs.specs.Types.{Row}
use Rattle.campaign_rows.specs.CampaignCounts.{campaign_counts_of}
use Rattle.campaign_rows.proofs.totals.CampaignCounts.count_all.Given as goal

abbrev pub invariant-loop-row : goal.invariant-loop-row
invariant-loop-row l = record {
  counted : (done : List Row) → l.initial.self ≡ campaign_counts_of done → l.self ≡ campaign_counts_of (done ++ take l.row-index l.rows);
  members : l.self.members ≡ l.initial.self.members + l.row-index;
}
