use Rattle.std.proofs.Common.{◌≡◌, subst, sym}
use Rattle.desk_like.specs.Stamps.{IsStampedFrom}
use Rattle.part_defs.specs.Runs.{IsRun, state_of}
use Rattle.part_server.specs.Desk.{desk_spec, desk_view}
use Rattle.threaded_run.proofs.Closed.{left_of}
use Rattle.threaded_run.proofs.closing.leave.Goals as goal

pub returns-clause-left : goal.returns-clause-left
returns-clause-left g c =
    left_of (desk_spec c.args.desk) (desk_view c.args.seat).seen c.in_ok-part.part c.in_ok-end.end c.into_journal.result c.in_ok-part.ensures.closed
    (subst (IsRun c.in_ok-part.part.state.spec) c.journal-events.ensures.journal c.journal-events.ensures.run)
    (subst (λ xs. c.in_ok-part.part.state ≡ state_of c.in_ok-part.part.state.spec xs) c.journal-events.ensures.journal c.journal-events.ensures.state)
    c.in_ok-end.ensures c.into_journal.ensures.journal

pub returns-clause-stamped : goal.returns-clause-stamped
returns-clause-stamped g c =
    subst (IsStampedFrom (desk_view c.args.seat).stamps) (sym c.into_journal.ensures.journal) c.in_ok-part.ensures.stamped
