use Rattle.std.proofs.Common.{Err, ap, inr, refl}
use Rattle.nooks.proofs.Traces.{trace_begun, trace_written}
use Rattle.nooks.proofs.tracing.trace.Goals as goal

pub returns-in-Ok-true-clause-ends : goal.returns-in-Ok-true-clause-ends
returns-in-Ok-true-clause-ends g c bytes hearing reading =
    trace_written bytes c.args.scenario.now c.args.part c.args.burst _ hearing reading (rw (c.in-Ok-true.field-0-test) at c.in-Ok-true.ensures.written)

pub returns-in-Err-Fault-clause-ends : goal.returns-in-Err-Fault-clause-ends
returns-in-Err-Fault-clause-ends g c bytes hearing reading = (
  c.in-Err-Fault.ensures.written.wrote.wrote.fault (ap Err c.in-Err-Fault.field-0-is),
  trace_begun bytes c.args.scenario.now c.args.part c.args.burst _ hearing _ reading c.in-Err-Fault.ensures.written,
)

pub returns-in-Err-NoMemory-clause-ends : goal.returns-in-Err-NoMemory-clause-ends
returns-in-Err-NoMemory-clause-ends g c bytes hearing reading =
    inr (trace_begun bytes c.args.scenario.now c.args.part c.args.burst _ hearing _ reading c.in-Err-NoMemory.ensures.written)

pub returns-in-Ok-true-clause-kept : goal.returns-in-Ok-true-clause-kept
returns-in-Ok-true-clause-kept g c other = c.in-Ok-true.ensures.written.wrote.wrote.kept

pub returns-in-Err-Fault-clause-kept : goal.returns-in-Err-Fault-clause-kept
returns-in-Err-Fault-clause-kept g c other = absurd (other refl)

pub returns-in-Err-NoMemory-clause-kept : goal.returns-in-Err-NoMemory-clause-kept
returns-in-Err-NoMemory-clause-kept g c other =
    c.in-Err-NoMemory.ensures.written.wrote.wrote.no_memory (ap Err c.in-Err-NoMemory.field-0-is)
