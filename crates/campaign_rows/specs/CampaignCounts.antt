use Rattle.std.specs.Prelude.{ℕ, Bool, List, length}
use Rattle.campaign_defs.specs.TableText.{counts_of, if_guarded, plan_effects_line, traps_count}
use Rattle.campaign_defs.specs.Types.{Row}
use Rattle.campaign_rows.specs.declared.totals.CampaignCounts.{CampaignCounts}
use Rattle.report_defs.specs.Campaigns.{status_count}

-- the counts of some rows
abbrev pub campaign_counts_of : List Row → CampaignCounts
campaign_counts_of rows = record {
  members = length rows;
  kept = status_count 0 (counts_of rows);
  given_up = status_count 1 (counts_of rows);
  broken = status_count 7 (counts_of rows);
  traps = traps_count rows;
}

-- the last line of the table whose rows were counted
abbrev pub campaign_counts_text : Bool → CampaignCounts → List ℕ
campaign_counts_text guard totals =
    plan_effects_line totals.members totals.kept totals.given_up totals.broken (if_guarded guard totals.traps)
