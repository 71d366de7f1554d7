use Rattle.std.specs.Prelude.{ℕ, ◌+◌, ◌==◌}
use Rattle.campaign_defs.specs.TableText.{traps_in}
use Rattle.campaign_defs.specs.Types.{Row}
use Rattle.campaign_rows.specs.declared.totals.CampaignCounts.{CampaignCounts}
use Rattle.promise_defs.specs.Losses.{one_if}

-- counts with one more row of a status
abbrev pub with_status : ℕ → CampaignCounts → CampaignCounts
with_status status totals = record totals {
  kept = totals.kept + one_if (status == 0);
  given_up = totals.given_up + one_if (status == 1);
  broken = totals.broken + one_if (status == 7);
}

-- counts with one more row
unfoldable pub with_row : Row → CampaignCounts → CampaignCounts
with_row row totals = with_status row.counts.status (record totals {
  members = totals.members + 1;
  traps = totals.traps + traps_in row.traps;
})
