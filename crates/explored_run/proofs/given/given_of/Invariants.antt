use Rattle.std.proofs.Common.{◌≡◌, take}
use Rattle.explore_defs.specs.Outcomes.{given_by}
use Rattle.report_defs.specs.ReportText.{journal_acts}
use Rattle.explored_run.proofs.given.given_of.Given as goal

abbrev pub invariant-loop-event : goal.invariant-loop-event
invariant-loop-event l = l.given ≡ given_by l.class (journal_acts (take l.event-index l.events))
