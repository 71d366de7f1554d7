use Rattle.std.proofs.Common.{subst, sym}
use Rattle.std.specs.Prelude.{All}
use Rattle.std.proofs.lemmas.List.Elements.{All-push}
use Rattle.fault_campaign.specs.NumberedRows.{IsRowFor, IsRowOfNumber}
use Rattle.fault_campaign.proofs.Placings.{found_at}
use Rattle.fault_campaign.proofs.running.work.Goals as goal

pub loop-preserved : goal.loop-preserved
loop-preserved c = (
  subst (All (IsRowOfNumber c.args.plan.now c.args.seen.shown.now c.args.members.now)) (sym c.in_ok-push.ensures.ok)
      (All-push (IsRowOfNumber c.args.plan.now c.args.seen.shown.now c.args.members.now) c.loop.rows _ c.loop.invariant.0
      (found_at (λ faults. IsRowFor c.args.plan.now c.args.seen.shown.now faults c.in_ok-row.row) c.args.members.now c.fetch_add-index.result
      c.index-members-index.result c.index-members-index.is c.in_ok-row.ensures.row)),
  c.in_ok-row.ensures.scenario,
)
