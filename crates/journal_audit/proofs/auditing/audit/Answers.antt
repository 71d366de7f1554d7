use Rattle.std.proofs.Common.{ℕ, IfOk, Some, subst, sym}
use Rattle.order_defs.specs.OutOfOrder.{Finds}
use Rattle.journal_audit.proofs.Sections.{as_many_ends, finds_left, finds_unfit}
use Rattle.journal_audit.proofs.auditing.audit.Goals as goal
use Rattle.journal_audit.specs.LinesLeft.{FirstLeftIs}

pub first_left-requires : goal.first_left-requires
first_left-requires c = as_many_ends c.args.scenario.now c.new-cursor.result c.check.new.past c.in-Ok.ensures

pub returns-in-Ok : goal.returns-in-Ok
returns-in-Ok c = record {
  exact =
      finds_left c.first_left.result c.args.scenario.now c.args.report.now c.new-cursor.result c.check.new.past c.new-cursor.ensures c.in-Ok.ensures
      (subst (λ threads. IfOk c.first_left.result (FirstLeftIs threads c.check.new.past)) c.as_slice.ensures c.first_left.ensures);
}

pub returns-in-Err-Unfit : goal.returns-in-Err-Unfit
returns-in-Err-Unfit c =
    let reported = rw c.in-Err-Unfit.field-0-is at c.in-Err-Unfit.ensures in
    record {
      exact =
          subst (λ (line : ℕ). Finds c.args.scenario.now c.args.report.now (Some line)) (sym c.in-Err-Unfit.line-is)
          (finds_unfit c.args.scenario.now c.args.report.now c.new-cursor.result c.in-Err-Unfit.line c.new-cursor.ensures reported);
    }
