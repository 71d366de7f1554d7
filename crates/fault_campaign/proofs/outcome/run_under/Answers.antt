use Rattle.std.proofs.lemmas.Bool.{ne_eqb}
use Rattle.fault_campaign.proofs.Outcomes.{first_false, free_outcome, second_false}
use Rattle.fault_campaign.proofs.outcome.run_under.Goals as goal
use Rattle.fault_campaign.proofs.outcome.run_under.Goals.{else-guard-via-then-guard+else-report-eq-BROKEN, else-guard-via-else-guard}

pub returns : goal.returns
returns c =
    free_outcome c.args.guard c.args.scenario.now c.in_ok-report.report c.in_ok-report.ensures
    (elim c.else-guard.branch [
      | else-guard-via-then-guard+else-report-eq-BROKEN w ↦ second_false _ _ (ne_eqb c.in_ok-report.report.status 7 w.if-report-eq-BROKEN.false)
      | else-guard-via-else-guard w ↦ first_false _ _ w.if-guard.false
    ])
