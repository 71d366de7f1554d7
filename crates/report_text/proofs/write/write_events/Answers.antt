use Rattle.report_text.proofs.WroteLemmas.{event_lines_each}
use Rattle.report_text.proofs.write.write_events.Goals as goal

pub returns : goal.returns
returns g c = rw (event_lines_each 1 c.args.events.now) c.write_each.ensures
