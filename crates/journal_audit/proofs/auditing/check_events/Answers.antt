-- The lines of events are read one after another.
use Rattle.journal_audit.proofs.Reading.{reads_more, reads_none}
use Rattle.journal_audit.proofs.auditing.check_events.Goals as goal

pub events-init : goal.events-init
events-init c = reads_none c.args.section.now c.args.cursor.now

pub events-preserved : goal.events-preserved
events-preserved c =
    reads_more c.args.section.now c.events.section c.check_event.new.section c.args.cursor.now c.events.cursor c.check_event.new.cursor
    c.events.invariant c.in_ok-check_event.ensures.reads

pub returns-clause-reads : goal.returns-clause-reads
returns-clause-reads c =
    reads_more c.args.section.now c.events.section c.check_event.new.section c.args.cursor.now c.events.cursor c.check_event.new.cursor
    c.events.invariant c.in_ok-check_event.ensures.reads
