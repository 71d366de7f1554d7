use Rattle.std.proofs.Common.{Err, ap, inr, refl}
use Rattle.nooks.proofs.Reports.{summary_begun}
use Rattle.nooks.proofs.simulated.run_generated.Goals as goal

pub returns-in-Err-Fault-clause-ends : goal.returns-in-Err-Fault-clause-ends
returns-in-Err-Fault-clause-ends g c = (
  c.in-Err-Fault.ensures.fault (ap Err c.in-Err-Fault.field-0-is),
  summary_begun c.args.number c.in-Ok.report _ c.in-Ok.ensures (rw (← c.sum_up.ensures) c.in-Err-Fault.ensures.err),
)

pub returns-clause-ends : goal.returns-clause-ends
returns-clause-ends g c = inr (summary_begun c.args.number c.in-Ok.report _ c.in-Ok.ensures (rw (← c.sum_up.ensures) c.in-Err-NoMemory.ensures.err))

pub returns-in-Err-Fault-clause-kept : goal.returns-in-Err-Fault-clause-kept
returns-in-Err-Fault-clause-kept g c other = absurd (other refl)

pub returns-in-Ok-write_summary-clause-kept : goal.returns-in-Ok-write_summary-clause-kept
returns-in-Ok-write_summary-clause-kept g c other = c.in-Ok-write_summary.ensures.kept

pub returns-clause-kept : goal.returns-clause-kept
returns-clause-kept g c other = c.in-Err-NoMemory.ensures.no_memory (ap Err c.in-Err-NoMemory.field-0-is)
