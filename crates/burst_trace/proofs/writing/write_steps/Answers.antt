use Rattle.burst_trace.proofs.Reporting.{steps_reported}
use Rattle.burst_trace.proofs.writing.write_steps.Goals as goal

pub returns-clause-written : goal.returns-clause-written
returns-clause-written g c =
    steps_reported c.args.inside.now c.args.faults.now c.args.domain.state _ _ _ c.detach-bus.ensures.words c.detach-bus.ensures.entries
    c.detach-bus.ensures.device c.trace_burst.ensures.written
