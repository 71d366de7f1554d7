use Rattle.std.proofs.Common.{◌∙◌, ◌++◌, ap, take, rules}
use Rattle.std.proofs.lemmas.List.{take_all}
use Rattle.campaign_rows.specs.Counting.{with_row}
use Rattle.campaign_rows.specs.CampaignCounts.{campaign_counts_of}
use Rattle.campaign_rows.proofs.Counted.{one_more, row_more}
use Rattle.campaign_rows.proofs.totals.CampaignCounts.count_all.Goals as goal

pub loop-row-preserved : goal.loop-row-preserved
loop-row-preserved c = let i = c.loop-row.row-index in record {
  counted = λ done e.
      c.in_ok-count.ensures.counted ∙ (ap (with_row _) (c.loop-row.invariant.counted done e)
      ∙ (row_more (done ++ take i c.args.rows.now) _ ∙ ap campaign_counts_of (one_more done c.args.rows.now i _ c.loop-row-test.true)));
  members = search rules;
}

pub returns-clause-counted : goal.returns-clause-counted
returns-clause-counted c done e =
    c.loop-row.invariant.counted done e
    ∙ ap (λ rows. campaign_counts_of (done ++ rows)) (take_all c.loop-row.row-index c.args.rows.now c.loop-row-test.false)
