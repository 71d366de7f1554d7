use Rattle.part_server.specs.Desk.{desk_spec, desk_view}
use Rattle.threaded_run.proofs.Closed.{closed_following, stamped_after}
use Rattle.threaded_run.proofs.closing.close.Goals as goal

pub returns-clause-closed : goal.returns-clause-closed
returns-clause-closed g c =
    closed_following (desk_spec c.args.desk) (desk_view c.args.seat) (desk_view c.settle.new.seat) c.close.result c.requires.alone c.settle.ensures.waits
    c.in_ok-settle.ensures.settled c.close.ensures.spec c.close.ensures.alone

pub returns-clause-stamped : goal.returns-clause-stamped
returns-clause-stamped g c =
    stamped_after (desk_view c.args.seat).stamps (desk_view c.settle.new.seat).stamps c.close.result.journal c.settle.ensures.ticks.stamps c.close.ensures.stamped
