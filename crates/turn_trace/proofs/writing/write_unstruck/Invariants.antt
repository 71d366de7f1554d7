use Rattle.std.proofs.Common.{drop}
use Rattle.nook_io.specs.Changes.{change}
use Rattle.report_text.proofs.WroteLemmas.{Progress}
use Rattle.turn_trace.specs.Lines.{unstruck_lines}
use Rattle.turn_trace.proofs.writing.write_unstruck.Given as goal

abbrev pub invariant-loop-fault : goal.invariant-loop-fault
invariant-loop-fault g l =
    Progress (change g.K.Sink.held g.K.Sink.count l.initial.sink l.sink)
    (unstruck_lines (drop l.fault-index l.faults)) (unstruck_lines l.faults)
