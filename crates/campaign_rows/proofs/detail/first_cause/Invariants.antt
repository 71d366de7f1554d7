use Rattle.std.proofs.Common.{◌≡◌, drop}
use Rattle.std.specs.Option.{option_or}
use Rattle.campaign_defs.specs.Rows.{first_cause}
use Rattle.campaign_rows.proofs.detail.first_cause.Given as goal

abbrev pub invariant-loop-event : goal.invariant-loop-event
invariant-loop-event l = option_or l.cause (first_cause (drop l.event-index l.events)) ≡ first_cause l.events
