use Rattle.std.proofs.Common.{length}
use Rattle.journal_audit.specs.Readings.{Reads}
use Rattle.journal_audit.proofs.auditing.check_events.Given as goal

abbrev pub invariant-events : goal.invariant-events
invariant-events l = Reads l.initial.section l.section l.initial.cursor l.cursor

abbrev pub decreases-events : goal.decreases-events
decreases-events l = length l.cursor.rest
