use Rattle.std.proofs.Common.{ap, map, refl}
use Rattle.event_order.specs.Lefts.{events_in}
use Rattle.report_defs.specs.ReportText.{has_break, has_given_up}
use Rattle.request_taps.specs.Bus.{after_hearing_all}
use Rattle.journal_audit.proofs.past.PastSections.new.Goals as goal

pub returns-clause-sums : goal.returns-clause-sums
unfolding has_break has_given_up after_hearing_all
returns-clause-sums c =
    record { many = refl; answers = c.new.ensures; journals = ap (map events_in) c.new-2.ensures; taps = c.in_ok-own_taps.ensures; broken = refl; given_up = refl }
