use Rattle.std.proofs.Common.{◌++◌, drop}
use Rattle.nook_io.specs.Changes.{change}
use Rattle.report_text.proofs.WroteLemmas.{Progress}
use Rattle.report_text.specs.Whole.{event_text}
use Rattle.report_text.specs.Writing.{each_text}
use Rattle.report_text.proofs.whole_text.write_acts.Given as goal

abbrev pub invariant-loop-event : goal.invariant-loop-event
invariant-loop-event g l =
    Progress (change g.K.Sink.held g.K.Sink.count l.initial.sink l.sink)
    (l.buffer ++ each_text (event_text l.kind) l.event-index (drop l.event-index l.events)) (each_text (event_text l.kind) 0 l.events)
