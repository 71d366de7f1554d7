use Rattle.std.specs.Prelude.{◌≡◌, ℕ, ◌+◌, List, ◌++◌, OnOk, Result, length}
use Rattle.campaign_defs.specs.Members.{Ran}
use Rattle.campaign_defs.specs.Rows.{AreMemberRows}
use Rattle.campaign_defs.specs.TableText.{plan_row_lines}
use Rattle.campaign_defs.specs.Types.{Row}
use Rattle.campaign_rows.specs.Shown.{IsShown}
use Rattle.campaign_rows.specs.declared.shown.Shown.{Shown}
use Rattle.campaign_rows.specs.CampaignCounts.{campaign_counts_of}
use Rattle.campaign_rows.specs.declared.totals.CampaignCounts.{CampaignCounts}
use Rattle.nook_data.specs.Types.{Fault}
use Rattle.nook_io.specs.Changes.{Change}
use Rattle.plan_defs.specs.Types.{Plan}
use Rattle.report_text.specs.Writing.{Wrote}
use Rattle.report_text.specs.declared.write.WriteStop.{WriteStop}

-- the rows of these members were written after the rows already counted, and were counted
pub record GivesRows {T : Type 0} (plan : Plan) (own : Ran) (lists : List (List Fault)) (sink : Change)
    (was is : CampaignCounts) (result : Result T WriteStop) : Type 0 where
  pub written : (done rows : List Row) → was ≡ campaign_counts_of done → AreMemberRows plan own lists rows
      → Wrote sink result (plan_row_lines (length done + 1) rows)
  pub counted : OnOk result ((done rows : List Row) → was ≡ campaign_counts_of done → AreMemberRows plan own lists rows
      → is ≡ campaign_counts_of (done ++ rows))

-- the same, compared with any run that has these texts
abbrev pub GivesRowsOver : {T : Type 0} → Plan → Shown → List (List Fault) → Change → CampaignCounts
    → CampaignCounts → Result T WriteStop → Type 0
GivesRowsOver plan shown lists sink was is result =
    (own : Ran) → IsShown own shown → GivesRows plan own lists sink was is result
